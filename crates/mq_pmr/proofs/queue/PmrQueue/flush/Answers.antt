use Rattle.std.proofs.Common.{sym, ap, subst}
use Rattle.mq_blocks.specs.Drive.{PortState}
use Rattle.mq_pmr.specs.Queue.{Kept}
use Rattle.mq_pmr.specs.Ring.{IsHeld, AreWhole, KeepsBefore}
use Rattle.mq_pmr.proofs.QueueFitting.{ends-along}
use Rattle.mq_pmr.proofs.Ring.{held_flush, whole_flush, before_flush}
use Rattle.mq_pmr.proofs.queue.PmrQueue.flush.Goals as goal

pub invariant_of-self-2-clause-ends : goal.invariant_of-self-2-clause-ends
invariant_of-self-2-clause-ends g c =
    let q = c.args.self.now in
    ends-along (g.P.Port.state q.port) (g.P.Port.state c.flush.new.self) q.done.end q.rung.items (ap (λ (s : PortState). s.doorbell) c.in_ok-flush.ensures.ok) q.ends

pub invariant_of-self-2-clause-whole : goal.invariant_of-self-2-clause-whole
invariant_of-self-2-clause-whole g c =
    let q = c.args.self.now in
    let old : PortState = g.P.Port.state q.port in
    let kept : Kept = record { slots = q.slots.items; end = q.end; head = q.head; stored_head = q.stored_head; passed = q.passed; done = q.done; rung = q.rung.items; staged = q.staged } in
    subst (λ (s : PortState). AreWhole s.flushed q.done.end q.rung.items) (sym c.in_ok-flush.ensures.ok) (whole_flush q.geometry q.queue old kept q.own.port q.fits q.held.flushed q.ends q.whole)

pub invariant_of-self-2-clause-held : goal.invariant_of-self-2-clause-held
invariant_of-self-2-clause-held g c =
    let q = c.args.self.now in
    let old : PortState = g.P.Port.state q.port in
    let opened : PortState = g.P.Port.state q.opened.value in
    let kept : Kept = record { slots = q.slots.items; end = q.end; head = q.head; stored_head = q.stored_head; passed = q.passed; done = q.done; rung = q.rung.items; staged = q.staged } in
    subst (λ (s : PortState). IsHeld opened s q.done q.rung.items q.staged) (sym c.in_ok-flush.ensures.ok) (held_flush q.geometry q.queue opened old kept q.own.port q.fits q.held)

pub returns-clause-before : goal.returns-clause-before
returns-clause-before g c =
    let q = c.args.self.now in
    let old : PortState = g.P.Port.state q.port in
    let kept : Kept = record { slots = q.slots.items; end = q.end; head = q.head; stored_head = q.stored_head; passed = q.passed; done = q.done; rung = q.rung.items; staged = q.staged } in
    subst (KeepsBefore old) (sym c.in_ok-flush.ensures.ok) (before_flush q.geometry q.queue old kept q.own.port q.fits q.held.flushed)
