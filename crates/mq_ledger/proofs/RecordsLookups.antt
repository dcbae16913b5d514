-- What a look into a ledger's tables answers.
use Rattle.std.proofs.Common.{◌≡◌, ℕ, ◌+◌, ◌<◌, ◌≤◌, List, [], ◌∷◌, length, reverse, Option, get_or, sym, ap, subst, ◌∙◌, arith}
use Rattle.std.proofs.lemmas.List.{length-reverse, reverse-reverse, get_or_read}
use Rattle.mq_ledger.specs.History.{writes, upto, of_queue, IsAt, IsPart, AreNumbered}
use Rattle.mq_ledger.specs.Items.{end_of, below, descriptor_blocks}
use Rattle.mq_ledger.specs.Records.{Ledger, own, from_of, IsClear}
use Rattle.mq_ledger.specs.State.{from_at}
use Rattle.mq_ledger.specs.Tables.{AreTables, AreLatest, IsLatest, latest_at, no_latest, HasTables, ledger_of, row_of, rows_of, row_before, no_row, rows_from, ends_by, is_up_to, ends_of}
use Rattle.mq_ledger.specs.declared.queue_rows.Row.{Row}
use Rattle.mq_ledger.specs.declared.latest.Latest.{Latest}
use Rattle.mq_ledger.specs.declared.records.Ledger.TheInside.{Inside}
use Rattle.mq_ledger.specs.declared.tx.Tx.{Tx}
use Rattle.mq_ledger.proofs.HistoryQueues.{at_own, IsFalling-of, FromQueue-of}
use Rattle.mq_ledger.proofs.TablesRows.{at-along, length-along, row-part, row-at, rows-ended, rows-up_to, least_undone, none_undone}

-- the tables are right by the ledger's value
pub tables_now : (l : Inside) (s : Ledger) → ledger_of l ≡ s → HasTables l → AreTables s l.newest.items l.settled.items l.queue_rows.items l.ends.items
tables_now l s e t = subst (λ v. AreTables v l.newest.items l.settled.items l.queue_rows.items l.ends.items) e t

module _ (s : Ledger) (newest settled : List Latest) (queue_rows : List (List Row)) (ends : List ℕ) (old : AreTables s newest settled queue_rows ends) (q : ℕ) (l : q < s.geometry.queues) (k : ℕ) (here : k ≡ q) (lane : List Row) (read : lane ≡ get_or queue_rows k lane) where
  pub lane_is : lane ≡ reverse (rows_of (from_of s q) (own s q))
  lane_is =
      let size = old.lanes_size in
      get_or_read queue_rows k lane (omega arith) read [] ∙ ap (λ (i : ℕ). get_or queue_rows i []) here ∙ old.lanes_are q l

  pub lane_length : length lane ≡ length (own s q)
  lane_length = ap length lane_is ∙ length-reverse (rows_of (from_of s q) (own s q)) ∙ length-along (λ t txs. row_of (from_of s q) (t ∷ txs)) (own s q)

  lane_back : reverse lane ≡ rows_of (from_of s q) (own s q)
  lane_back = ap reverse lane_is ∙ reverse-reverse (rows_of (from_of s q) (own s q))

  pub lane_ended : (count r : ℕ) → r ≡ rows_from (ends_by count) (reverse lane) → r ≡ length (below (from_of s q) count (own s q))
  lane_ended count r e = e ∙ ap (rows_from (ends_by count)) lane_back ∙ rows-ended (from_of s q) count (own s q)

  pub lane_up_to : (number r : ℕ) → r ≡ rows_from (is_up_to number) (reverse lane) → r ≡ length (upto number (own s q))
  lane_up_to number r e = e ∙ ap (rows_from (is_up_to number)) lane_back ∙ rows-up_to (from_of s q) number (own s q)

  pub lane_before : (from at : ℕ) (r : Row) (txs : List Tx) → from ≡ from_of s q → r ≡ row_before from lane at → IsPart txs (own s q) → length txs ≡ at → r ≡ row_of (from_of s q) txs
  lane_before from at r txs f e part size =
      e ∙ ap (λ (n : ℕ). row_before n lane at) f ∙ ap (λ (rs : List Row). row_before (from_of s q) rs at) lane_is ∙ ap (λ (n : ℕ). row_before (from_of s q) (reverse (rows_of (from_of s q) (own s q))) n) (sym size) ∙ row-part (from_of s q) txs (own s q) part

  pub lane_number : (at n : ℕ) (t : Tx) (txs : List Tx) → n ≡ (get_or lane at (no_row 0)).number → IsAt t txs (own s q) → length txs ≡ at → n ≡ t.number
  lane_number at n t txs e there size =
      e ∙ ap (λ (rs : List Row). (get_or rs at (no_row 0)).number) lane_is ∙ ap (λ (i : ℕ). (get_or (reverse (rows_of (from_of s q) (own s q))) i (no_row 0)).number) (sym size) ∙ ap (λ (r : Row). r.number) (row-at (from_of s q) t txs (own s q) (no_row 0) there)

-- ---- a mark of a queue

pub clear_all : (s : Ledger) (q head mark : ℕ) → length (own s q) ≤ length (below (from_of s q) head (own s q)) → IsClear s q head mark
clear_all s q head mark full t ts at mine past = absurd (none_undone (from_of s q) head (own s q) full t (of_queue q ts) (at_own q t ts s.history at mine) past)

pub clear_at : (s : Ledger) (q head mark n : ℕ) → AreNumbered s.base s.history → length (below (from_of s q) head (own s q)) < length (own s q) → ((t : Tx) (txs : List Tx) → IsAt t txs (own s q) → length txs ≡ length (below (from_of s q) head (own s q)) → n ≡ t.number) → (mark ≤ n → IsClear s q head mark) × (IsClear s q head mark → mark ≤ n)
clear_at s q head mark n numbers few is =
    let r = least_undone q (from_of s q) head (own s q) (IsFalling-of s.base q s.history numbers).0 few in
    let e : n ≡ r.u.number = is r.u r.vs r.at r.size in
    let f = FromQueue-of q r.u r.vs s.history r.at in
    let P : List Tx → Type 0 = λ txs. head < end_of (from_of s q) txs + (writes r.u + descriptor_blocks r.u) in (
      λ low t ts at mine past. let k = r.least t (of_queue q ts) (at_own q t ts s.history at mine) past in omega arith,
      λ clear. let k = clear r.u f.ts f.at f.own (subst P (sym f.rest) r.above) in omega arith,
    )

-- ---- the next to be done

pub end_at : (s : Ledger) (ends : List ℕ) (t : Tx) (ts : List Tx) (d : ℕ) → ends ≡ reverse (ends_of s.starts s.history) → IsAt t ts s.history → get_or ends (length ts) d ≡ end_of (from_at s.starts t.queue) (of_queue t.queue ts) + (writes t + descriptor_blocks t)
end_at s ends t ts d e at = ap (λ (xs : List ℕ). get_or xs (length ts) d) e ∙ at-along (λ u txs. end_of (from_at s.starts u.queue) (of_queue u.queue txs) + (writes u + descriptor_blocks u)) t ts s.history d at

pub from_read : (starts : List ℕ) (s : Ledger) (q k n : ℕ) → starts ≡ s.starts → length s.starts ≡ s.geometry.queues → q < s.geometry.queues → k ≡ q → n ≡ get_or starts k n → n ≡ from_of s q
from_read starts s q k n same size l here read =
    let long : length starts ≡ s.geometry.queues = ap length same ∙ size in
    get_or_read starts k n (omega arith) read 0 ∙ ap (λ (i : ℕ). get_or starts i 0) here ∙ ap (λ (xs : List ℕ). get_or xs q 0) same

pub latest_read : (start : List (Option (List ℕ))) (base homes x k : ℕ) (h : List Tx) (table : List Latest) (l : Latest) → AreLatest start base h homes table → x < homes → k ≡ x → l ≡ get_or table k l → IsLatest start base h x l
latest_read start base homes x k h table l a inside here read =
    let size = a.size in
    let is : l ≡ latest_at table x = get_or_read table k l (omega arith) read no_latest ∙ ap (λ (i : ℕ). get_or table i no_latest) here in
    subst (IsLatest start base h x) (sym is) (a.each x inside)
