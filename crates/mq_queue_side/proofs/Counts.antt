-- How the count of events and what is still to come move together.
use Rattle.std.proofs.Common.{◌≡◌, ◌≢◌, ℕ, zero, suc, ◌+◌, ◌*◌, ◌-◌, ◌≤◌, ◌^◌, min, List, [], ◌∷◌, length, refl, ap, ◌∙◌, inl, inr, arith, length-append}
use Rattle.std.proofs.lemmas.Bool.{cases_eq, eq-eqb, ne_eqb}
use Rattle.mq_blocks.specs.Drive.{PortState, counted, staged_end, after_flush}
use Rattle.mq_ledger.specs.Items.{end_of}
use Rattle.mq_ledger.specs.KnownJournal.{KnownJournal, draw_known}
use Rattle.mq_ledger.specs.declared.tx.Tx.{Tx}
use Rattle.mq_pmr.specs.Runs.{Items, after_some, commands_of}
use Rattle.mq_queue_side.specs.Side.{SideState}
use Rattle.mq_queue_side.specs.Counts.{IsCounted, ahead, unless_same, most_events}
use Rattle.mq_queue_side.specs.Drained.{Rises}

pub counted_le : (n k : ℕ) → counted n k ≤ n + k
counted_le n zero = omega arith
counted_le n (suc k) = omega (arith, counted_le (min (n + 1) (2 ^ 64 - 1)) k)

pub same-none : (a b n : ℕ) → a ≡ b → unless_same a b n ≡ 0
same-none a b n e = rw (eq-eqb a b e) refl

pub other-all : (a b n : ℕ) → a ≢ b → unless_same a b n ≡ n
other-all a b n e = rw (ne_eqb a b e) refl

pub unless_le : (a b n : ℕ) → unless_same a b n ≤ n
unless_le a b n = elim (cases_eq a b) [
  | inl e ↦ omega (arith, same-none a b n e)
  | inr e ↦ omega (arith, other-all a b n e)
]

-- ---- a step that costs no more than it brings nearer, or one more where there is a fault

pub step_counts : (first : ℕ) (k : KnownJournal) (q : ℕ) (us : List Tx) (old new : SideState) → new.faults ≡ old.faults → new.port.events + ahead (end_of (k.from q) us) new ≤ old.port.events + ahead (end_of (k.from q) us) old → IsCounted first k q us old → IsCounted first k q us new
step_counts first k q us old new same less (inl full) = inl (let e : length new.faults ≡ length old.faults = ap length same in omega (arith, e, full))
step_counts first k q us old new same less (inr c) = inr (let e : length new.faults ≡ length old.faults = ap length same in omega (arith, e, less, c))

pub fault_counts : (first : ℕ) (k : KnownJournal) (q : ℕ) (us : List Tx) (old new : SideState) → Rises old.faults new.faults → new.port.events + ahead (end_of (k.from q) us) new ≤ old.port.events + ahead (end_of (k.from q) us) old + 1 → IsCounted first k q us old → IsCounted first k q us new
fault_counts first k q us old new r less (inl full) = inl (let m = r.0 in omega (arith, m, full))
fault_counts first k q us old new r less (inr c) = elim r.1 [
  | inl more ↦ inr (omega (arith, more, less, c))
  | inr full ↦ inl (let m = r.0 in omega (arith, m, full))
]

-- ---- a draw

pub draw_counts : (first : ℕ) (k : KnownJournal) (q : ℕ) (t : Tx) (us : List Tx) (s : SideState) → s.port.doorbell ≡ end_of (k.from q) us → staged_end s.port ≤ end_of (k.from q) us → IsCounted first k q us s → IsCounted first (draw_known t k) q (t ∷ us) s
draw_counts first k q t us s rung staged (inl full) = inl full
draw_counts first k q t us s rung staged (inr c) =
    let a = same-none s.port.doorbell (end_of (k.from q) us) 4 rung in
    let b = unless_le s.port.doorbell (end_of (k.from q) (t ∷ us)) 4 in
    inr (omega (arith, a, b, c, staged))

-- ---- staging

pub length_some : (tx at n : ℕ) (items : Items) → n ≤ length items → length (commands_of tx at n items) ≡ n
length_some tx at zero items l = refl
length_some tx at (suc n) [] l = absurd (omega arith)
length_some tx at (suc n) (i ∷ is) l = ap suc (length_some tx (at + 1) n is (omega (arith, l)))

pub staged_ahead : (end tx n : ℕ) (items : Items) (old new : SideState) → n ≤ length items → staged_end old.port + length items ≡ end → new.port ≡ after_some old.port tx n items → new.passed ≡ old.passed → new.rung ≡ old.rung → new.port.events + ahead end new ≤ old.port.events + ahead end old
staged_ahead end tx n items old new few whole is passed rung =
    let p : PortState = after_some old.port tx n items in
    let more : length p.pending ≡ length old.port.pending + n = length-append old.port.pending (commands_of tx (staged_end old.port) n items) ∙ ap (λ (m : ℕ). length old.port.pending + m) (length_some tx (staged_end old.port) n items few) in
    let events : p.events ≤ old.port.events + n = counted_le old.port.events n in
    let same : ahead end new ≡ (2 * (end - staged_end p) + (length p.pending + length p.posted)) + (unless_same p.doorbell end 4 + (2 * length old.rung + unless_same p.head old.passed.end 2)) =
    (λ i. (2 * (end - staged_end (is i)) + (length (is i).pending + length (is i).posted)) + (unless_same (is i).doorbell end 4 + (2 * length (rung i) + unless_same (is i).head (passed i).end 2))) in
    let e : new.port.events ≡ p.events = ap (λ (r : PortState). r.events) is in
    omega (arith, more, events, same, e, few, whole)

-- ---- a flush, and ringing

-- a flush moves the head towards what is passed
pub head_near : (head stored done : ℕ) → head ≤ stored → stored ≤ done → unless_same stored done 2 ≤ unless_same head done 2
head_near head stored done low high = elim (cases_eq head done) [
  | inl e ↦ (let a = same-none stored done 2 (omega (arith, e, low, high)) in omega (arith, a))
  | inr e ↦ (let a = other-all head done 2 e in omega (arith, a, unless_le stored done 2))
]

pub flushed_ahead : (end : ℕ) (p : PortState) (old new : SideState) → p.head ≤ p.stored_head → p.stored_head ≤ old.passed.end → old.port ≡ p → new.port ≡ after_flush p → new.passed ≡ old.passed → new.rung ≡ old.rung → new.port.events + ahead end new ≤ old.port.events + ahead end old + 1
flushed_ahead end p old new low high was is passed rung =
    let one : counted p.events 1 ≤ p.events + 1 = counted_le p.events 1 in
    let near = head_near p.head p.stored_head old.passed.end low high in
    let now : ahead end new ≡ (2 * (end - staged_end p) + (length p.pending + length p.posted)) + (unless_same p.doorbell end 4 + (2 * length old.rung + unless_same p.stored_head old.passed.end 2)) =
    (λ i. (2 * (end - staged_end (is i)) + (length (is i).pending + length (is i).posted)) + (unless_same (is i).doorbell end 4 + (2 * length (rung i) + unless_same (is i).head (passed i).end 2))) in
    let before : ahead end old ≡ (2 * (end - staged_end p) + (length p.pending + length p.posted)) + (unless_same p.doorbell end 4 + (2 * length old.rung + unless_same p.head old.passed.end 2)) =
    (λ i. (2 * (end - staged_end (was i)) + (length (was i).pending + length (was i).posted)) + (unless_same (was i).doorbell end 4 + (2 * length old.rung + unless_same (was i).head old.passed.end 2))) in
    let e : new.port.events ≡ counted p.events 1 = ap (λ (r : PortState). r.events) is in
    let f : old.port.events ≡ p.events = ap (λ (r : PortState). r.events) was in
    omega (arith, one, near, now, before, e, f)

-- at most 2n + 4 events for each transaction of n entries, and one for each fault
pub events_bound : (first : ℕ) (k : KnownJournal) (q : ℕ) (us : List Tx) (s : SideState) → s.port.events ≤ 2 ^ 64 - 1 → IsCounted first k q us s → s.port.events ≤ first + most_events us + length s.faults
events_bound first k q us s low (inl full) = omega (arith, low, full)
events_bound first k q us s low (inr c) = omega (arith, c)
