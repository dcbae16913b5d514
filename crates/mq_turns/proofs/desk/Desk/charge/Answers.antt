use Rattle.std.proofs.Common.{ap}
use Rattle.mq_turns.proofs.desk.Desk.charge.Goals as goal

pub returns-clause-noted : goal.returns-clause-noted
returns-clause-noted g c = let t = c.charge.ensures.noted in (t.0, ap (λ m. m.0) t.1, t.2)
