use Rattle.std.proofs.Common.{◌≡◌, ◌≤◌, ◌<◌, ℕ, ◌+◌, ◌∷◌, [], ◌++◌, List, length, Option, Some, None, refl, sym, ◌∙◌, ap, subst, arith, rules}
use Rattle.std.specs.VecDeque.{deque_len}
use Rattle.mq_blocks.specs.Drive.{PortState, staged_end, after_ring}
use Rattle.mq_pmr.specs.Queue.{Fits, Kept}
use Rattle.mq_pmr.specs.Rungs.{AreEnds}
use Rattle.mq_pmr.specs.declared.rungs.Rung.{Rung}
use Rattle.mq_pmr.proofs.QueueFitting.{fits_rung, ends_more, length-ends}
use Rattle.mq_pmr.proofs.Ring.{whole_ring, held_ring}
use Rattle.mq_pmr.proofs.QueueOwning.{rung_ring}
use Rattle.mq_pmr.specs.Ring.{IsHeld, AreWhole}
use Rattle.mq_pmr.specs.Written.{IsWritten}
use Rattle.mq_pmr.proofs.Written.{written_rung}
use Rattle.mq_pmr.proofs.queue.PmrQueue.ring_once.Goals as goal

pub add_rung-requires : goal.add_rung-requires
add_rung-requires g c =
    let q = c.flush.new.self in
    let few = length-ends _ _ _ q.ends in
    let staged = q.fits.staged c.in-Some.tx (sym c.take.ensures.value ∙ c.in-Some.is) in
    let count : deque_len q.rung ≡ length q.rung.items = search rules in
    let room = q.fits.room in
    let heads = q.fits.heads in
    let stored = q.fits.stored in
    let reserved = q.reserved in
    omega (arith, few, staged, count, room, heads, stored, reserved)

pub invariant_of-self-in-Some : goal.invariant_of-self-in-Some
invariant_of-self-in-Some g c =
    let q = c.flush.new.self in
    let old : PortState = g.P.Port.state q.port in
    let new : PortState = g.P.Port.state c.ring.new.self in
    let rung : new ≡ after_ring old = c.in_ok-ring.ensures.ok in
    let staged = q.fits.staged c.in-Some.tx (sym c.take.ensures.value ∙ c.in-Some.is) in
    let opened : PortState = g.P.Port.state q.opened.value in
    let tail : old.flushed_end ≡ staged_end old = ap (λ (s : PortState). s.flushed_end) c.in_ok-flush.ensures.ok ∙ sym (ap staged_end c.in_ok-flush.ensures.ok) in
    let is : q.staged ≡ Some c.in-Some.tx = sym c.take.ensures.value ∙ c.in-Some.is in
    let kept : Kept = record { slots = q.slots.items; end = q.end; head = q.head; stored_head = q.stored_head; passed = q.passed; done = q.done; rung = q.rung.items; staged = q.staged } in
    let next : Rung = record { tx = c.in-Some.tx; end = q.end } in
    let items : c.add_rung.new.rung.items ≡ q.rung.items ++ next ∷ [] = c.add_rung.ensures.items in
    let fits : Fits new (record kept { rung = c.add_rung.new.rung.items; staged = c.take.new.self }) =
    subst (λ (o : Option ℕ). Fits new (record kept { rung = c.add_rung.new.rung.items; staged = o })) (sym c.take.ensures.after)
    (subst (λ (s : PortState). Fits s (record kept { rung = c.add_rung.new.rung.items; staged = Rattle.std.proofs.Common.None })) (sym rung) (fits_rung old kept c.add_rung.new.rung.items q.fits)) in
    let at : new.doorbell ≡ q.end = ap (λ (s : PortState). s.doorbell) rung ∙ sym q.fits.end in
    record {
      fits = fits;
      ends = subst (λ (n : ℕ). AreEnds q.done.end n c.add_rung.new.rung.items) (sym at)
          (subst (AreEnds q.done.end q.end) (sym items) (ends_more q.done.end old.doorbell q.rung.items next staged q.ends));
      own = rung_ring q.geometry q.queue old new rung q.own;
      written = subst (λ (s : PortState). IsWritten s q.slots.items q.done.end q.end) (sym rung) (written_rung old q.slots.items q.done.end q.end q.written);
      whole = subst (λ (s : PortState). AreWhole s.flushed q.done.end c.add_rung.new.rung.items) (sym rung)
          (subst (AreWhole old.flushed q.done.end) (sym items) (whole_ring q.geometry q.queue opened old kept next q.own.port tail is q.fits.end q.held q.whole));
      held = subst (IsHeld opened new q.done c.add_rung.new.rung.items) (sym c.take.ensures.after)
          (subst (λ (s : PortState). IsHeld opened s q.done c.add_rung.new.rung.items None) (sym rung)
          (subst (λ (l : List Rung). IsHeld opened (after_ring old) q.done l None) (sym items) (held_ring q.geometry q.queue opened old kept next q.own.port q.fits tail is q.fits.end q.held)));
      reserved = let more = c.add_rung.ensures.capacity in let was = q.reserved in omega (arith, more, was);
    }
