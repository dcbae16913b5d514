-- A transaction whose entries do not all stand below an image's head is above the number that the image
-- reaches.
use Rattle.std.proofs.Common.{◌≡◌, ℕ, ◌+◌, ◌<◌, ◌≤◌, leb, true, List, length, inl, inr, arith}
use Rattle.std.proofs.lemmas.Bool.{cases_lt, leb-true, or_cases}
use Rattle.mq_blocks.specs.Descriptor.{Descriptor}
use Rattle.mq_blocks.specs.Journal.{AreWhole, IsPrefix, Shown}
use Rattle.mq_core.proofs.HistoryFronts.{done_below}
use Rattle.mq_core.proofs.StateCuts.{IsCut}
use Rattle.mq_core.proofs.StateSafe.{reach_is}
use Rattle.mq_core.specs.Whole.{is_whole}
use Rattle.mq_ledger.specs.History.{IsAt, of_queue, writes}
use Rattle.mq_ledger.specs.Items.{Entries, descriptor_blocks, end_of}
use Rattle.mq_ledger.specs.State.{Facts, State, from_at, is_done, port_at}
use Rattle.mq_ledger.specs.declared.tx.Tx.{Tx}

module _ (e : Entries) (s : State) (i : Shown) (f : Facts e s) (cut : IsCut e s i) where
  -- the count behind the transaction's last entry
  abbrev behind : Tx → List Tx → ℕ
  behind t ts = end_of (from_at s.starts t.queue) (of_queue t.queue ts) + (writes t + descriptor_blocks t)

  base-not : (t : Tx) (ts : List Tx) → IsAt t ts s.history → i.head t.queue < behind t ts → i.base < t.number
  base-not t ts at high = elim (cases_lt i.base t.number) [
    | inl above ↦ above
    | inr low ↦ absurd (
        let reached = cut.reached in
        let own = (f.log.each t ts at).0.queue in
        let done : behind t ts ≤ (port_at s.ports t.queue).head = leb-true _ _ (done_below s.base (is_done s.starts s.ports) t ts s.history f.log.numbers at (omega arith)) in
        let head = cut.from_head t.queue own in
        omega arith)
  ]

  pub above-reached : (chains : ℕ → List Descriptor) (ds : List Descriptor) (t : Tx) (ts : List Tx) → AreWhole s.geometry i chains → IsPrefix s.geometry i chains ds → IsAt t ts s.history → i.head t.queue < behind t ts → i.base + length ds < t.number
  above-reached chains ds t ts whole prefix at high = elim (cases_lt (i.base + length ds) t.number) [
    | inl above ↦ above
    | inr low ↦ absurd (
        let reached = reach_is e s i f cut chains ds whole prefix in
        let is : is_whole s i t ts ≡ true = done_below s.base (is_whole s i) t ts s.history f.log.numbers at (omega (arith, reached, low)) in
        let past = base-not t ts at high in
        elim (or_cases (leb t.number i.base) (leb (behind t ts) (i.head t.queue)) is) [
          | inl old ↦ (let l : t.number ≤ i.base = leb-true _ _ old in omega arith)
          | inr held ↦ (let l : behind t ts ≤ i.head t.queue = leb-true _ _ held in omega arith)
        ])
  ]
