use Rattle.std.proofs.Common.{ap}
use Rattle.mq_turns.specs.AtDesk.{view, start_of}
use Rattle.mq_turns.proofs.Swept.{keeps_front}
use Rattle.mq_turns.proofs.desk.Desk.front.Goals as goal

pub returns-clause-front : goal.returns-clause-front
returns-clause-front g c =
    let t = c.note_front.ensures.noted in
    keeps_front g.M.Machine.meaning (start_of c.args.self.now) c.read_marks-front.result (view c.args.chair.now) (view c.read_marks-front.new.chair) _ t.0 c.read_marks-front.ensures.marks (ap (λ m. m.0) t.1)
