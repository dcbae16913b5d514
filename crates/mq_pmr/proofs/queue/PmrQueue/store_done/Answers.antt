use Rattle.std.proofs.Common.{sym, ap, subst}
use Rattle.mq_blocks.specs.Drive.{PortState}
use Rattle.mq_pmr.specs.Ring.{IsHeld, AreWhole}
use Rattle.mq_pmr.proofs.QueueFitting.{posted_from, failed_from, ends-along}
use Rattle.mq_pmr.proofs.Ring.{held_store}
use Rattle.mq_pmr.proofs.queue.PmrQueue.store_done.Goals as goal

pub store_head-requires-clause-posted : goal.store_head-requires-clause-posted
store_head-requires-clause-posted g c = posted_from _ _ c.args.self.now.fits

pub store_head-requires-clause-failed : goal.store_head-requires-clause-failed
store_head-requires-clause-failed g c = failed_from _ _ c.args.self.now.fits

pub invariant_of-self-2-clause-ends : goal.invariant_of-self-2-clause-ends
invariant_of-self-2-clause-ends g c =
    let q = c.args.self.now in
    ends-along (g.P.Port.state q.port) (g.P.Port.state c.store_head.new.self) q.done.end q.rung.items (ap (λ (s : PortState). s.doorbell) c.in_ok-store_head.ensures.ok) q.ends

pub invariant_of-self-2-clause-whole : goal.invariant_of-self-2-clause-whole
invariant_of-self-2-clause-whole g c =
    let q = c.args.self.now in
    subst (λ (s : PortState). AreWhole s.flushed q.done.end q.rung.items) (sym c.in_ok-store_head.ensures.ok) q.whole

pub invariant_of-self-2-clause-held : goal.invariant_of-self-2-clause-held
invariant_of-self-2-clause-held g c =
    let q = c.args.self.now in
    let opened : PortState = g.P.Port.state q.opened.value in
    subst (λ (s : PortState). IsHeld opened s q.done q.rung.items q.staged) (sym c.in_ok-store_head.ensures.ok) (held_store opened (g.P.Port.state q.port) q.done q.rung.items q.staged q.held)
