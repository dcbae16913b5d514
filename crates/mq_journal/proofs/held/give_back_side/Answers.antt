use Rattle.std.proofs.Common.{◌+◌, ◌<◌, length, sym, subst, ◌∙◌}
use Rattle.mq_desk_laws.specs.Rule.{IsSide}
use Rattle.mq_turns.specs.AtDesk.{view, start_of}
use Rattle.mq_turns.specs.Chairs.{giving}
use Rattle.mq_turns.specs.Lists.{times}
use Rattle.mq_journal.specs.Numbers.{values}
use Rattle.mq_journal.proofs.NumbersMarking.{side_known}
use Rattle.mq_journal.proofs.held.give_back_side.Goals as goal

pub give_back-requires-clause-holds : goal.give_back-requires-clause-holds
give_back-requires-clause-holds g c =
    subst (λ z. 0 < times (length (start_of c.args.desk.now).pages + z) (view c.args.chair.now).held) (sym c.queue-queue.ensures) c.requires.side.holds

pub give_back-requires-clause-stands : goal.give_back-requires-clause-stands
give_back-requires-clause-stands g c = λ K sees.
    let state = g.P.Port.state in
    let faults = g.P.Port.faults in
    let group = g.G.Groups.group in
    let s = c.args.side in
    let known = side_known state faults group (start_of c.args.desk.now) s.pmr.queue s (view c.args.chair.now) c.requires.at.1 c.requires.side K sees in
    subst (λ z. IsSide (values state faults group) group z K s) (sym c.queue-queue.ensures) known

pub returns-clause-gave : goal.returns-clause-gave
returns-clause-gave g c =
    let v = view c.args.chair.now in
    c.give_back.ensures.gave ∙ (λ i. giving (length (start_of c.args.desk.now).pages + c.queue-queue.ensures i) v)
