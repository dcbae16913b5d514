-- The count of events over whole calls.
use Rattle.std.proofs.Common.{◌≡◌, ◌⊎◌, ℕ, ◌+◌, ◌-◌, ◌*◌, ◌≤◌, List, ◌∷◌, length, sym, refl, ap, subst, inl, inr, arith}
use Rattle.std.specs.Prelude.{Result, Ok, Err}
use Rattle.mq_blocks.specs.Drive.{PortState, staged_end, after_flush, after_ring, after_store_head, after_begin, after_end}
use Rattle.mq_drive.specs.Steps.{HomeGives, HomeError, PowerOff}
use Rattle.mq_drive.specs.declared.port.Off.{Off}
use Rattle.mq_drive.specs.declared.port.HomeStep.{HomeStep}
use Rattle.mq_drive.specs.declared.port.HomeStep.TheVariants as home
use Rattle.mq_ledger.specs.Items.{end_of}
use Rattle.mq_ledger.specs.KnownJournal.{KnownJournal, LogOk, draw_known}
use Rattle.mq_ledger.specs.declared.tx.Tx.{Tx}
use Rattle.mq_pmr.specs.Answers.{EndsWell, EndsBadly}
use Rattle.mq_pmr.specs.Queue.{after_head}
use Rattle.mq_pmr.specs.Runs.{Items, after_some}
use Rattle.mq_pmr.specs.Rungs.{is_clear}
use Rattle.mq_pmr.specs.declared.rungs.Rung.{Rung}
use Rattle.mq_queue_side.specs.Side.{SideState, IsQueueSide, IsRung}
use Rattle.mq_queue_side.specs.Counts.{IsCounted, ahead, unless_same}
use Rattle.mq_queue_side.specs.Sent.{IsCutAt}
use Rattle.mq_queue_side.specs.Drained.{Rises}
use Rattle.mq_queue_side.proofs.DrainedCompletes.{gains_rises}
use Rattle.mq_queue_side.proofs.Counts.{step_counts, fault_counts, draw_counts, staged_ahead, flushed_ahead}
use Rattle.mq_queue_side.proofs.CountsCalls.{sent_ahead, one_less, ended_ahead, passed_ahead, stored_ahead, headed_ahead}
use Rattle.mq_queue_side.proofs.SideEnds.{SameRecords}
use Rattle.mq_queue_side.proofs.SideHeads.{HeadMoves, Rings}
use Rattle.mq_queue_side.proofs.SideSends.{AreReady, RungRecords, nothing_pending, at_end, whole}

-- ---- a send

module _ (first : ℕ) (k : KnownJournal) (q : ℕ) (us : List Tx) (old : SideState) (tx : ℕ) (items : Items) (log : LogOk k) (r : AreReady k q us old tx items) (s : IsQueueSide k q us old) (high : old.port.stored_head ≤ old.passed.end) (c : IsCounted first k q us old) where
  abbrev end : ℕ
  end = end_of (k.from q) us

  sum : staged_end old.port + length items ≡ end
  sum = (let a = at_end k q us old tx items log r s in let w = whole k q us old tx items log r s in omega (arith, a, w))

  pub sent_counts : (new : SideState) (t : Rung) → new.faults ≡ old.faults → new.port ≡ after_ring (after_flush (after_some old.port tx (length items) items)) → RungRecords old new t → IsCounted first k q us new
  sent_counts new t faults is same =
      step_counts first k q us old new faults
      (sent_ahead end tx items t old new (nothing_pending k q us old tx items log r s) r.some (whole k q us old tx items log r s) (s.side.order.stored) high is same.passed same.rung) c

  pub cut_counts : (new : SideState) → Rises old.faults new.faults → IsCutAt old.port tx items new.port → SameRecords old new → IsCounted first k q us new
  cut_counts new rises (inl some) same = fault_counts first k q us old new rises (let l = staged_ahead end tx some.0 items old new (let m = some.1 in omega (arith, m)) sum some.2 same.passed same.rung in omega (arith, l)) c
  cut_counts new rises (inr (inl all)) same = fault_counts first k q us old new rises (let l = staged_ahead end tx (length items) items old new (omega arith) sum all same.passed same.rung in omega (arith, l)) c
  cut_counts new rises (inr (inr all)) same =
      let p : PortState = after_some old.port tx (length items) items in
      let mid : SideState = record { geometry = old.geometry; queue = old.queue; port = p; faults = old.faults; passed = old.passed; rung = old.rung; done = old.done; kept = old.kept } in
      let one = staged_ahead end tx (length items) items old mid (omega arith) sum refl refl refl in
      let o = s.side.order in
      let two = flushed_ahead end p mid new o.stored high refl all same.passed same.rung in
      fault_counts first k q us old new rises (omega (arith, one, two)) c

-- ---- a command ends, the head moves on

module _ (first : ℕ) (k : KnownJournal) (q : ℕ) (us : List Tx) (old new : SideState) where
  pub well_counts : (slot : ℕ) → EndsWell old.port slot new.port → new.faults ≡ old.faults → SameRecords old new → IsCounted first k q us old → IsCounted first k q us new
  well_counts slot e faults same c =
      let is = e.is in
      step_counts first k q us old new faults (ended_ahead (end_of (k.from q) us) old new
      (one_less old.port new.port e.at e.command e.posted (ap (λ (p : PortState). p.posted) is) (ap (λ (p : PortState). p.events) is) (ap (λ (p : PortState). p.pending) is) (ap (λ (p : PortState). p.doorbell) is) (ap (λ (p : PortState). p.head) is))
      same.passed same.rung) c

  pub badly_counts : (tx : ℕ) → EndsBadly old.port tx new.port → Rises old.faults new.faults → SameRecords old new → IsCounted first k q us old → IsCounted first k q us new
  badly_counts tx e rises same c =
      let is = e.is in
      let l = ended_ahead (end_of (k.from q) us) old new
      (one_less old.port new.port e.at e.command e.posted (ap (λ (p : PortState). p.posted) is) (ap (λ (p : PortState). p.events) is) (ap (λ (p : PortState). p.pending) is) (ap (λ (p : PortState). p.doorbell) is) (ap (λ (p : PortState). p.head) is))
      same.passed same.rung in
      fault_counts first k q us old new rises (omega (arith, l)) c

  module _ (a : HeadMoves old new new.passed.end) (r : Rings old new) (low : old.port.head ≤ old.port.stored_head) (c : IsCounted first k q us old) where
    below_done : old.port.head ≤ old.passed.end
    below_done = (let s = r.stored in omega (arith, s, low))

    pub head_counts : new.faults ≡ old.faults → new.port ≡ after_head old.port new.passed.end → IsCounted first k q us new
    head_counts faults is = step_counts first k q us old new faults (headed_ahead (end_of (k.from q) us) (is_clear old.port) old new r.ends below_done a.passed a.rung is) c

    pub cut_head_counts : Rises old.faults new.faults → (new.port ≡ old.port) ⊎ (new.port ≡ after_store_head old.port new.passed.end) → IsCounted first k q us new
    cut_head_counts rises (inl is) = fault_counts first k q us old new rises (let l = passed_ahead (end_of (k.from q) us) (is_clear old.port) old new r.ends below_done a.passed a.rung is in omega (arith, l)) c
    cut_head_counts rises (inr is) = fault_counts first k q us old new rises (stored_ahead (end_of (k.from q) us) (is_clear old.port) old new r.ends below_done a.passed a.rung is) c

-- nothing happened
pub still_counts : (first : ℕ) (k : KnownJournal) (q : ℕ) (us : List Tx) (old new : SideState) → Rises old.faults new.faults → new.port ≡ old.port → SameRecords old new → IsCounted first k q us old → IsCounted first k q us new
still_counts first k q us old new rises is same c =
    let e : new.port.events + ahead (end_of (k.from q) us) new ≡ old.port.events + ahead (end_of (k.from q) us) old = (λ i. (is i).events + ahead (end_of (k.from q) us) (record { geometry = new.geometry; queue = new.queue; port = is i; faults = new.faults; passed = same.passed i; rung = same.rung i; done = new.done; kept = new.kept })) in
    fault_counts first k q us old new rises (omega (arith, e)) c

pub idle_counts : (first : ℕ) (k : KnownJournal) (q : ℕ) (us : List Tx) (old new : SideState) → new.faults ≡ old.faults → new.port ≡ old.port → SameRecords old new → IsCounted first k q us old → IsCounted first k q us new
idle_counts first k q us old new faults is same c =
    let e : new.port.events + ahead (end_of (k.from q) us) new ≡ old.port.events + ahead (end_of (k.from q) us) old = (λ i. (is i).events + ahead (end_of (k.from q) us) (record { geometry = new.geometry; queue = new.queue; port = is i; faults = new.faults; passed = same.passed i; rung = same.rung i; done = new.done; kept = new.kept })) in
    step_counts first k q us old new faults (omega (arith, e)) c

-- ---- a draw

pub drawn_counts : (first : ℕ) (k : KnownJournal) (q : ℕ) (t : Tx) (us : List Tx) (s : SideState) → IsQueueSide k q us s → IsRung k q us s → IsCounted first k q us s → IsCounted first (draw_known t k) q (t ∷ us) s
drawn_counts first k q t us s is rung c = draw_counts first k q t us s rung (is.side.order.drawn) c

-- ---- a home write

-- of a port, nothing that is counted moved
record SameCounts (old new : PortState) : Type 0 where
  pub events : new.events ≡ old.events
  pub end : staged_end new ≡ staged_end old
  pub pending : length new.pending ≡ length old.pending
  pub posted : length new.posted ≡ length old.posted
  pub doorbell : new.doorbell ≡ old.doorbell
  pub head : new.head ≡ old.head

ahead_same : (end : ℕ) (old new : SideState) → SameRecords old new → SameCounts old.port new.port → new.port.events + ahead end new ≡ old.port.events + ahead end old
ahead_same end old new same c =
    let passed = same.passed in
    let rung = same.rung in
    λ i. c.events i + ((2 * (end - c.end i) + (c.pending i + c.posted i)) + (unless_same (c.doorbell i) end 4 + (2 * length (rung i) + unless_same (c.head i) (passed i).end 2)))

begun_same : (p : PortState) (lba : ℕ) (block : List ℕ) → SameCounts p (after_begin p lba block)
begun_same p lba block = record { events = refl; end = refl; pending = refl; posted = refl; doorbell = refl; head = refl }

ended_same : (p : PortState) (lba : ℕ) (block : List ℕ) → SameCounts p (after_end (after_begin p lba block) lba block)
ended_same p lba block = record { events = refl; end = refl; pending = refl; posted = refl; doorbell = refl; head = refl }

pub home_counts : (first : ℕ) (k : KnownJournal) (q : ℕ) (us : List Tx) (old new : SideState) (lba : ℕ) (block : List ℕ) (result : Result HomeStep Off) → SameRecords old new → HomeGives old.port old.faults lba block result new.port new.faults → IsCounted first k q us old → IsCounted first k q us new
home_counts first k q us old new lba block (Ok home.Done) same gives c =
    let e = ahead_same (end_of (k.from q) us) old new same (subst (λ p. SameCounts old.port p) (sym gives.0) (ended_same old.port lba block)) in
    step_counts first k q us old new gives.1 (omega (arith, e)) c
home_counts first k q us old new lba block (Ok (home.Error status)) same gives c =
    let e = ahead_same (end_of (k.from q) us) old new same (subst (λ p. SameCounts old.port p) (sym gives.1) (begun_same old.port lba block)) in
    fault_counts first k q us old new (gains_rises (HomeError lba status) old.faults new.faults gives.2) (omega (arith, e)) c
home_counts first k q us old new lba block (Err off) same gives c = elim gives.0 [
  | inl is ↦ still_counts first k q us old new (gains_rises PowerOff old.faults new.faults gives.1) is same c
  | inr is ↦ (
      let e = ahead_same (end_of (k.from q) us) old new same (subst (λ p. SameCounts old.port p) (sym is) (begun_same old.port lba block)) in
      fault_counts first k q us old new (gains_rises PowerOff old.faults new.faults gives.1) (omega (arith, e)) c)
]
