use Rattle.std.proofs.Common.{List, ap, subst, ◌∙◌}
use Rattle.mq_drive.specs.Steps.{Gains, PortFault, PowerOff}
use Rattle.mq_queue_side.specs.Sent.{RingsAll, Sends}
use Rattle.mq_queue_side.specs.Side.{SideState, side_state}
use Rattle.mq_queue_side.specs.Stored.{rows_of}
use Rattle.mq_replica.proofs.Bounds.{bound_cut, bound_sent, bound_then}
use Rattle.mq_replica.proofs.Results.{on_ok}
use Rattle.mq_replica.proofs.Rings.{ring_sent}
use Rattle.mq_replica.proofs.Committed.{committed, rows_then, same_side, was_drained, was_sent}
use Rattle.mq_queue_side.proofs.DrainedCompletes.{gains_rises}
use Rattle.mq_replica.proofs.committing.commit.Goals as goal

pub returns-in-Ok-clause-commits : goal.returns-in-Ok-clause-commits
returns-in-Ok-clause-commits g c = λ k t m num tells.
    let n = c.numbered-numbered.ensures in
    let s = c.args.side.now in
    let same = same_side g.Q.Port.state g.Q.Port.faults s c.numbered-numbered.new.self n.pmr n.done (n.kept) in
    let sends = subst (λ (o : SideState). Sends o c.numbered-numbered.result (side_state g.Q.Port.state g.Q.Port.faults c.send.new.self)) same c.in-Ok.ensures.stays in
    let rings = subst (λ (o : SideState). RingsAll o c.numbered-numbered.result (side_state g.Q.Port.state g.Q.Port.faults c.send.new.self)) same c.in-Ok.ensures.whole in
    let d = c.drain.ensures in
    let stored = ap (λ v. rows_of v.items) (d.stored ∙ c.in-Ok.ensures.stored) in (
      was_drained k t _ (rows_of s.stored.items) c.args.number c.args.prepared m num tells c.requires.none c.numbered-numbered.result _ _ n.commit sends d.stays,
      rows_then k t _ (rows_of s.stored.items) c.args.number c.args.prepared m num tells c.requires.none (rows_of c.drain.new.self.stored.items) (stored ∙ n.rows),
      committed k t _ (rows_of s.stored.items) c.args.number c.args.prepared m num tells c.requires.none c.numbered-numbered.result _ _ n.commit sends rings c.drain.result d.drains d.whole,
    )

pub returns-in-Ok-clause-bound : goal.returns-in-Ok-clause-bound
returns-in-Ok-clause-bound g c =
    let S = g.Q.Port.state in
    let at = ap (λ q. S q.port) c.numbered-numbered.ensures.pmr in
    bound_then (S c.args.side.now.pmr.port) (S c.send.new.self.pmr.port) (S c.drain.new.self.pmr.port) (bound_sent (S c.args.side.now.pmr.port) _ _ _ _ at c.in-Ok.ensures.ok) c.drain.ensures.drains.bound

pub returns-in-Ok-clause-rings : goal.returns-in-Ok-clause-rings
returns-in-Ok-clause-rings g c =
    let S = g.Q.Port.state in
    let at = ap (λ q. S q.port) c.numbered-numbered.ensures.pmr in
    on_ok c.drain.result _ (c.drain.ensures.drains.rings ∙ ring_sent (S c.args.side.now.pmr.port) _ _ _ _ at c.in-Ok.ensures.ok)

pub returns-in-Err-clause-bound : goal.returns-in-Err-clause-bound
returns-in-Err-clause-bound g c =
    let S = g.Q.Port.state in
    let at = ap (λ q. S q.port) c.numbered-numbered.ensures.pmr in
    bound_cut (S c.args.side.now.pmr.port) _ _ _ (S c.send.new.self.pmr.port) at c.in-Err.ensures.off

pub returns-in-Err-clause-commits : goal.returns-in-Err-clause-commits
returns-in-Err-clause-commits g c = λ k t m num tells.
    let n = c.numbered-numbered.ensures in
    let s = c.args.side.now in
    let same = same_side g.Q.Port.state g.Q.Port.faults s c.numbered-numbered.new.self n.pmr n.done (n.kept) in
    let sends = subst (λ (o : SideState). Sends o c.numbered-numbered.result (side_state g.Q.Port.state g.Q.Port.faults c.send.new.self)) same c.in-Err.ensures.stays in
    let stored = ap (λ v. rows_of v.items) c.in-Err.ensures.stored in (
      was_sent k t _ (rows_of s.stored.items) c.args.number c.args.prepared m num tells c.requires.none c.numbered-numbered.result _ n.commit sends,
      rows_then k t _ (rows_of s.stored.items) c.args.number c.args.prepared m num tells c.requires.none (rows_of c.send.new.self.stored.items) (stored ∙ n.rows),
      tt,
    )

pub returns-in-Err-clause-cause : goal.returns-in-Err-clause-cause
returns-in-Err-clause-cause g c = gains_rises PowerOff _ _ (subst (λ (fs : List PortFault). Gains PowerOff fs (g.Q.Port.faults c.send.new.self.pmr.port)) (ap (λ q. g.Q.Port.faults q.port) c.numbered-numbered.ensures.pmr) c.in-Err.ensures.cause)
