-- The entry that a ledger stages for a count.
use Rattle.std.proofs.Common.{◌≡◌, ℕ, ◌+◌, ◌-◌, ◌<◌, ◌≤◌, List, length, sym, ap, subst, ◌∙◌}
use Rattle.mq_blocks.specs.declared.geometry.Geometry.{Geometry}
use Rattle.mq_ledger.specs.History.{writes, of_queue, IsAt, IsPart}
use Rattle.mq_ledger.specs.Items.{Item, end_of, next, below, item_at, item_of, descriptor_blocks}
use Rattle.mq_ledger.specs.Records.{Ledger, own, from_of}
use Rattle.mq_ledger.specs.Staged.{IsStaged, IsBehind}
use Rattle.mq_ledger.specs.Tables.{row_of}
use Rattle.mq_ledger.specs.declared.queue_rows.Row.{Row}
use Rattle.mq_ledger.specs.declared.staging.Staged.{Staged}
use Rattle.mq_ledger.specs.declared.tx.Tx.{Tx}
use Rattle.mq_ledger.proofs.Items.{Source-of}
use Rattle.mq_ledger.proofs.TablesLedgers.{below-is}
use Rattle.mq_ledger.proofs.HistoryQueues.{at_own, at_next}
use Rattle.mq_ledger.proofs.TablesRows.{below-part, at-length}

-- the transaction of a count, and what stands before it
pub record IsEntry (s : Ledger) (q count : ℕ) : Type 0 where
  pub t : Tx
  pub ts : List Tx
  pub txs : List Tx
  pub at : IsAt t ts s.history
  pub mine : t.queue ≡ q
  pub inside : IsAt t txs (own s q)
  pub part : IsPart txs (own s q)
  pub size : length (below (from_of s q) count (own s q)) ≡ length txs
  pub few : length txs < length (own s q)
  pub low : end_of (from_of s q) txs ≤ count
  pub high : count < end_of (from_of s q) txs + (writes t + descriptor_blocks t)
  pub place : next txs + (length t.logged + descriptor_blocks t) ≤ next (own s q)
  pub is : item_at (from_of s q) (own s q) count ≡ item_of t txs (count - end_of (from_of s q) txs)

pub entry_of : (s : Ledger) (q count : ℕ) → from_of s q ≤ count → count < end_of (from_of s q) (own s q) → IsEntry s q count
entry_of s q count low high =
    let e = Source-of (from_of s q) q s.history count low high in
    let inside = at_own q e.t e.ts s.history e.at e.own in
    let here = below-is (from_of s q) count e.t (of_queue q e.ts) (own s q) inside e.low e.high in
    let P : List Tx → Type 0 = λ txs. IsPart txs (own s q) in
    record {
      t = e.t;
      ts = e.ts;
      txs = of_queue q e.ts;
      at = e.at;
      mine = e.own;
      inside = inside;
      part = subst P here (below-part (from_of s q) count (own s q));
      size = ap length here;
      few = at-length e.t (of_queue q e.ts) (own s q) inside;
      low = e.low;
      high = e.high;
      place = at_next e.t (of_queue q e.ts) (own s q) inside;
      is = e.is;
    }

pub entry_staged : (s : Ledger) (g : Geometry) (q count index : ℕ) (e : IsEntry s q count) (u : Tx) (before : Row) (staged : Staged) → g ≡ s.geometry → u ≡ e.t → before ≡ row_of (from_of s q) e.txs → index ≡ count - before.end → ((txs : List Tx) → IsBehind before txs → IsStaged g u.queue (item_of u txs index) staged) → IsStaged s.geometry q (item_at (from_of s q) (own s q) count) staged
entry_staged s g q count index e u before staged same tx row i each =
    let behind : IsBehind before e.txs = record { number = ap (λ (r : Row). r.number) row; next_is = ap (λ (r : Row). r.next) row } in
    let place : index ≡ count - end_of (from_of s q) e.txs = i ∙ ap (λ (r : Row). count - r.end) row in
    let queue : u.queue ≡ q = ap (λ (t : Tx). t.queue) tx ∙ e.mine in
    let item : item_of u e.txs index ≡ item_at (from_of s q) (own s q) count = ap (λ (t : Tx). item_of t e.txs index) tx ∙ ap (item_of e.t e.txs) place ∙ sym e.is in
    let G : Geometry → Type 0 = λ h. IsStaged h q (item_at (from_of s q) (own s q) count) staged in
    let Q : ℕ → Type 0 = λ r. IsStaged g r (item_at (from_of s q) (own s q) count) staged in
    let I : Item → Type 0 = λ k. IsStaged g u.queue k staged in
    subst G same (subst Q queue (subst I item (each e.txs behind)))
