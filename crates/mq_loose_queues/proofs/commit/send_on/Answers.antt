use Rattle.std.proofs.Common.{ap, subst, ◌∙◌, OnOk}
use Rattle.mq_queue_side.specs.Commits.{NumberedCommit}
use Rattle.mq_queue_side.specs.Sent.{RingsAll, Sends}
use Rattle.mq_queue_side.specs.Side.{SideState, side_state}
use Rattle.mq_loose_queues.proofs.Calls.{same_side}
use Rattle.mq_loose_queues.proofs.commit.send_on.Goals as goal

pub returns-clause-stays : goal.returns-clause-stays
returns-clause-stays g c =
    let n = c.numbered.ensures in
    let new = side_state g.P.Port.state g.P.Port.faults c.send.new.self in
    let same = same_side g.P.Port.state g.P.Port.faults c.args.side.now c.numbered.new.self n.pmr n.done n.kept in
    let numbered = c.with_last-numbered.ensures ∙ ap (λ (m : NumberedCommit). record m { last = c.args.last }) n.commit in
    subst (λ (m : NumberedCommit). Sends (side_state g.P.Port.state g.P.Port.faults c.args.side.now) m new) numbered
    (subst (λ (o : SideState). Sends o c.with_last-numbered.result new) same c.send.ensures.stays)

pub returns-clause-whole : goal.returns-clause-whole
returns-clause-whole g c =
    let n = c.numbered.ensures in
    let new = side_state g.P.Port.state g.P.Port.faults c.send.new.self in
    let same = same_side g.P.Port.state g.P.Port.faults c.args.side.now c.numbered.new.self n.pmr n.done n.kept in
    let numbered = c.with_last-numbered.ensures ∙ ap (λ (m : NumberedCommit). record m { last = c.args.last }) n.commit in
    subst (λ (m : NumberedCommit). OnOk c.send.result (RingsAll (side_state g.P.Port.state g.P.Port.faults c.args.side.now) m new)) numbered
    (subst (λ (o : SideState). OnOk c.send.result (RingsAll o c.with_last-numbered.result new)) same c.send.ensures.whole)
