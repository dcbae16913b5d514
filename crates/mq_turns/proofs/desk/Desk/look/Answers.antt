use Rattle.std.proofs.Common.{ap}
use Rattle.mq_turns.proofs.desk.Desk.look.Goals as goal

pub returns-clause-looked : goal.returns-clause-looked
returns-clause-looked g c = let t = c.look.ensures.looked in (t.0, ap (λ m. m.0) t.1, t.2, t.3)
