use Rattle.std.proofs.Common.{arith, ap, ◌<◌, ◌≤◌, ◌+◌}
use Rattle.mq_turns.proofs.Lists.{each_map}
use Rattle.mq_turns.proofs.desk.Desk.draw.Goals as goal

pub returns-clause-drew : goal.returns-clause-drew
returns-clause-drew g c = let t = c.draw-last.ensures.drew in (t.0, ap (λ m. m.0) t.1, omega arith, t.3)

pub returns-clause-above : goal.returns-clause-above
returns-clause-above g c = let t = c.draw-last.ensures.below in (omega (arith, t.0.0), each_map (λ d. d.0 ≤ c.draw-last.result) (λ d. d.0 < c.draw-last.result + 1) (λ d le. omega arith) _ t.0.1)

pub returns-clause-limit : goal.returns-clause-limit
returns-clause-limit g c = let t = c.draw-last.ensures.below in let few = t.1 in omega arith
