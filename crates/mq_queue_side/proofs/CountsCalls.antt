-- How the count of events moves with a send that is whole, with a command that ends, and with the head.
use Rattle.std.proofs.Common.{◌≡◌, ℕ, ◌+◌, ◌*◌, ◌-◌, ◌<◌, ◌≤◌, Bool, eqb, List, [], ◌∷◌, ◌++◌, length, Some, refl, ap, ◌∙◌, inl, inr, arith, length-append}
use Rattle.std.specs.Prelude.{slice_get}
use Rattle.std.specs.List.{remove}
use Rattle.std.proofs.lemmas.Bool.{cases_eq, cases_Bool, eqb-true, eq-eqb}
use Rattle.std.proofs.lemmas.List.Edits.{length-remove}
use Rattle.std.proofs.lemmas.Option.{slice_get_within}
use Rattle.mq_blocks.specs.Drive.{PortState, counted, staged_end, after_flush, after_ring, after_store_head}
use Rattle.mq_blocks.specs.declared.command.Command.{Command}
use Rattle.mq_pmr.specs.Queue.{after_head}
use Rattle.mq_pmr.specs.Runs.{Items, after_some, commands_of}
use Rattle.mq_pmr.specs.Rungs.{AreEnds, last_leading, left_after}
use Rattle.mq_pmr.specs.declared.rungs.Rung.{Rung}
use Rattle.mq_queue_side.specs.Side.{SideState}
use Rattle.mq_queue_side.specs.Counts.{ahead, unless_same}
use Rattle.mq_queue_side.proofs.Counts.{counted_le, same-none, other-all, unless_le, length_some, head_near}

-- ---- a whole send

pub sent_ahead : (end tx : ℕ) (items : Items) (r : Rung) (old new : SideState) → old.port.pending ≡ [] → 0 < length items → old.port.doorbell + length items ≡ end → old.port.head ≤ old.port.stored_head → old.port.stored_head ≤ old.passed.end
    → new.port ≡ after_ring (after_flush (after_some old.port tx (length items) items)) → new.passed ≡ old.passed → new.rung ≡ old.rung ++ r ∷ [] → new.port.events + ahead end new ≤ old.port.events + ahead end old
sent_ahead end tx items r old new quiet some whole low high is done rung =
    let o : PortState = old.port in
    let p : PortState = after_ring (after_flush (after_some o tx (length items) items)) in
    let none : length o.pending ≡ 0 = ap length quiet in
    let waits : length (o.pending ++ commands_of tx (staged_end o) (length items) items) ≡ length items =
    (let e = length-append o.pending (commands_of tx (staged_end o) (length items) items) in let m = length_some tx (staged_end o) (length items) items (omega arith) in omega (arith, e, m, none)) in
    let posted : length p.posted ≡ length o.posted + length items =
    (let e = length-append o.posted (o.pending ++ commands_of tx (staged_end o) (length items) items) in omega (arith, e, waits)) in
    let bell : p.doorbell ≡ end = omega (arith, waits, whole) in
    let one = counted_le o.events (length items) in
    let two = counted_le (counted o.events (length items)) 1 in
    let three = counted_le (counted (counted o.events (length items)) 1) 1 in
    let near = head_near o.head o.stored_head old.passed.end low high in
    let longer : length (old.rung ++ r ∷ []) ≡ length old.rung + 1 = length-append old.rung (r ∷ []) in
    let now : ahead end new ≡ (2 * (end - staged_end p) + (length p.pending + length p.posted)) + (unless_same p.doorbell end 4 + (2 * length (old.rung ++ r ∷ []) + unless_same p.head old.passed.end 2)) =
    (λ i. (2 * (end - staged_end (is i)) + (length (is i).pending + length (is i).posted)) + (unless_same (is i).doorbell end 4 + (2 * length (rung i) + unless_same (is i).head (done i).end 2))) in
    let closed = same-none p.doorbell end 4 bell in
    let open_bell = other-all o.doorbell end 4 (λ e. omega (arith, e, whole, some)) in
    let e : new.port.events ≡ p.events = ap (λ (r : PortState). r.events) is in
    omega (arith, none, posted, bell, one, two, three, near, longer, now, closed, open_bell, e, whole)

-- ---- a command ends

-- one command fewer is posted, and one event more has happened
pub record OneLess (old new : PortState) : Type 0 where
  pub events : new.events ≤ old.events + 1
  pub posted : length new.posted + 1 ≡ length old.posted
  pub pending : new.pending ≡ old.pending
  pub doorbell : new.doorbell ≡ old.doorbell
  pub head : new.head ≡ old.head

pub one_less : (p r : PortState) (at : ℕ) (c : Command) → slice_get p.posted at ≡ Some c → r.posted ≡ remove p.posted at → r.events ≡ counted p.events 1 → r.pending ≡ p.pending → r.doorbell ≡ p.doorbell → r.head ≡ p.head → OneLess p r
one_less p r at c is left events pending doorbell head =
    let e : length r.posted ≡ length (remove p.posted at) = ap length left in
    record {
      events = omega (arith, events, counted_le p.events 1);
      posted = omega (arith, e, length-remove p.posted at (slice_get_within p.posted at c is));
      pending = pending;
      doorbell = doorbell;
      head = head;
    }

pub ended_ahead : (end : ℕ) (old new : SideState) → OneLess old.port new.port → new.passed ≡ old.passed → new.rung ≡ old.rung → new.port.events + ahead end new ≤ old.port.events + ahead end old
ended_ahead end old new less done rung =
    let events = less.events in
    let posted = less.posted in
    let now : ahead end new ≡ (2 * (end - (old.port.doorbell + length old.port.pending)) + (length old.port.pending + length new.port.posted)) + (unless_same old.port.doorbell end 4 + (2 * length old.rung + unless_same old.port.head old.passed.end 2)) =
    (λ i. (2 * (end - (less.doorbell i + length (less.pending i))) + (length (less.pending i) + length new.port.posted)) + (unless_same (less.doorbell i) end 4 + (2 * length (rung i) + unless_same (less.head i) (done i).end 2))) in
    omega (arith, events, posted, now)

-- ---- the head

-- each transaction that is passed pays for the head
pub leading_pays : (passes : ℕ → Bool) (limit head : ℕ) (done : Rung) (rs : List Rung) → AreEnds done.end limit rs → head ≤ done.end → 2 * length (left_after passes rs) + unless_same head (last_leading passes done rs).end 2 ≤ 2 * length rs + unless_same head done.end 2
leading_pays passes limit head done [] ends low = omega arith
leading_pays passes limit head done (r ∷ rs) ends low = elim (cases_Bool (passes r.end)) [
  | inl e ↦
      let up = ends.0 in
      let ih = leading_pays passes limit head r rs ends.1 (omega (arith, low, up)) in
      let most = unless_le head r.end 2 in
      rw e (omega (arith, ih, most))
  | inr e ↦ rw e (omega arith)
]

-- the port's parts of what is ahead stay, except for the head
pub record HeadOnly (old new : PortState) : Type 0 where
  pub posted : new.posted ≡ old.posted
  pub pending : new.pending ≡ old.pending
  pub doorbell : new.doorbell ≡ old.doorbell

rest_same : (end : ℕ) (old new : SideState) → HeadOnly old.port new.port
    → ahead end new ≡ (2 * (end - staged_end old.port) + (length old.port.pending + length old.port.posted)) + (unless_same old.port.doorbell end 4 + (2 * length new.rung + unless_same new.port.head new.passed.end 2))
rest_same end old new s =
    (λ i. (2 * (end - (s.doorbell i + length (s.pending i))) + (length (s.pending i) + length (s.posted i))) + (unless_same (s.doorbell i) end 4 + (2 * length new.rung + unless_same new.port.head new.passed.end 2)))

module _ (end : ℕ) (passes : ℕ → Bool) (old new : SideState) (ends : AreEnds old.passed.end old.port.doorbell old.rung) (low : old.port.head ≤ old.passed.end) (done : new.passed ≡ last_leading passes old.passed old.rung) (rung : new.rung ≡ left_after passes old.rung) where
  pays : 2 * length new.rung + unless_same old.port.head new.passed.end 2 ≤ 2 * length old.rung + unless_same old.port.head old.passed.end 2
  pays = rw (done, rung) (leading_pays passes old.port.doorbell old.port.head old.passed old.rung ends low)

  -- nothing is stored
  pub passed_ahead : new.port ≡ old.port → new.port.events + ahead end new ≤ old.port.events + ahead end old
  passed_ahead is =
      let all = rest_same end old new (record { posted = ap (λ (p : PortState). p.posted) is; pending = ap (λ (p : PortState). p.pending) is; doorbell = ap (λ (p : PortState). p.doorbell) is }) in
      let p = pays in
      let e : new.port.events ≡ old.port.events = ap (λ (p : PortState). p.events) is in
      let h : unless_same new.port.head new.passed.end 2 ≡ unless_same old.port.head new.passed.end 2 = ap (λ (p : PortState). unless_same p.head new.passed.end 2) is in
      omega (arith, all, p, e, h)

  -- it is stored, and not flushed
  pub stored_ahead : new.port ≡ after_store_head old.port new.passed.end → new.port.events + ahead end new ≤ old.port.events + ahead end old + 1
  stored_ahead is =
      let all = rest_same end old new (record { posted = ap (λ (p : PortState). p.posted) is; pending = ap (λ (p : PortState). p.pending) is; doorbell = ap (λ (p : PortState). p.doorbell) is }) in
      let p = pays in
      let one = counted_le old.port.events 1 in
      let e : new.port.events ≡ counted old.port.events 1 = ap (λ (p : PortState). p.events) is in
      let h : unless_same new.port.head new.passed.end 2 ≡ unless_same old.port.head new.passed.end 2 = ap (λ (p : PortState). unless_same p.head new.passed.end 2) is in
      omega (arith, all, p, one, e, h)

  -- it is flushed
  pub headed_ahead : new.port ≡ after_head old.port new.passed.end → new.port.events + ahead end new ≤ old.port.events + ahead end old
  headed_ahead is = elim (cases_Bool (eqb old.port.head new.passed.end)) [
    | inl same ↦ passed_ahead (is ∙ rw same refl)
    | inr other ↦
        let to : new.port ≡ after_flush (after_store_head old.port new.passed.end) = is ∙ rw other refl in
        let all = rest_same end old new (record { posted = ap (λ (p : PortState). p.posted) to; pending = ap (λ (p : PortState). p.pending) to; doorbell = ap (λ (p : PortState). p.doorbell) to }) in
        let p = pays in
        let one = counted_le old.port.events 1 in
        let two = counted_le (counted old.port.events 1) 1 in
        let e : new.port.events ≡ counted (counted old.port.events 1) 1 = ap (λ (p : PortState). p.events) to in
        let head : new.port.head ≡ new.passed.end = ap (λ (p : PortState). p.head) to in
        let h = same-none new.port.head new.passed.end 2 head in
        let w = other-all old.port.head new.passed.end 2 (Rattle.std.proofs.lemmas.Bool.eqb-false old.port.head new.passed.end other) in
        omega (arith, all, p, one, two, e, h, w)
  ]
