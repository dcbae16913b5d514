use Rattle.std.proofs.Common.{ap}
use Rattle.mq_turns.proofs.desk.Desk.note_page.Goals as goal

pub returns-clause-noted : goal.returns-clause-noted
returns-clause-noted g c = let t = c.note_page.ensures.noted in (t.0, ap (λ m. m.0) t.1, t.2)
