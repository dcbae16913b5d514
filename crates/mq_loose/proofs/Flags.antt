-- Flags of settled transactions, one more at a time.
use Rattle.std.proofs.Common.{◌≡◌, ◌≢◌, ℕ, ◌+◌, ◌-◌, ◌<◌, ◌≤◌, ◌&&◌, Bool, true, false, List, [], ◌∷◌, ◌++◌, length, reverse, get_or, sym, refl, ap, ◌∙◌, inl, inr, arith, length-append}
use Rattle.std.proofs.lemmas.Bool.{cases_lt}
use Rattle.std.proofs.lemmas.List.{get_or_append_left}
use Rattle.std.proofs.Math.Seq.{get_or-append_seam}
use Rattle.mq_blocks.specs.Drive.{PortState}
use Rattle.mq_blocks.specs.Journal.{is_among}
use Rattle.mq_blocks.proofs.JournalAmong.{among-here, among-behind}
use Rattle.mq_ledger.specs.History.{AreNumbered}
use Rattle.mq_ledger.specs.State.{is_done}
use Rattle.mq_ledger.specs.declared.tx.Tx.{Tx}
use Rattle.mq_ledger.proofs.History.{at_numbered}
use Rattle.mq_loose_order.specs.Dependence.{all_in, closure, depends_on}
use Rattle.mq_loose_order.proofs.Closed.{closure-at, closure-other, closure-own}
use Rattle.mq_loose_order.proofs.Dependences.{deps_low}
use Rattle.mq_loose.specs.Rows.{flag_of, is_past, loose_rows, row_for}
use Rattle.mq_loose.specs.declared.machine.rows.LooseRow.{LooseRow}
use Rattle.mq_loose.proofs.RowLists.{has_before, length-rows, row_at}

pub all_along : (S T : ℕ → Bool) (ns : List ℕ) → ((n : ℕ) → is_among n ns ≡ true → S n ≡ T n) → all_in S ns ≡ all_in T ns
all_along S T [] each = refl
all_along S T (n ∷ ns) each = (λ i. each n (among-here n ns) i && all_along S T ns (λ m a. each m (among-behind n m ns a)) i)

-- the flags so far are those of the closure
abbrev pub AreFlags : ℕ → List ℕ → List PortState → List Tx → List Bool → Type 0
AreFlags base starts ports h flags = (n : ℕ) → base < n → n ≤ base + length flags → flag_of base flags n ≡ closure (is_done starts ports) base h n

pub flags_more : (base : ℕ) (starts : List ℕ) (ports : List PortState) (h : List Tx) (rows : List LooseRow) (flags : List Bool) (flag : Bool) (row : LooseRow) → AreNumbered base h → rows ≡ reverse (loose_rows base starts h) → length flags < length rows → row ≡ get_or rows (length flags) row
    → flag ≡ (is_past row ports && all_in (flag_of base flags) row.deps) → AreFlags base starts ports h flags → AreFlags base starts ports h (flags ++ flag ∷ [])
flags_more base starts ports h rows flags flag row k is l read e before n low high = elim (cases_lt (base + length flags) n) [
  | inr old ↦ get_or_append_left flags (flag ∷ []) false (n - base - 1) (omega (arith, low, old)) ∙ before n low old
  | inl new ↦
      let b = has_before (length flags) h (omega (arith, l, length-rows base starts h rows is)) in
      let size = b.size in
      let own : row ≡ row_for base starts b.t b.ts = read ∙ ap (λ m. get_or rows m row) (sym b.size) ∙ row_at base starts b.t b.ts h rows row is b.at in
      let m = at_numbered base b.t b.ts h k b.at in
      let long : length (flags ++ flag ∷ []) ≡ length flags + 1 = length-append flags (flag ∷ []) in
      let number : b.t.number ≡ n = omega (arith, m.0, size, new, high, long) in
      let has = is_done starts ports in
      let at : n - base - 1 ≡ length flags = omega (arith, number, m.0, size) in
      let flags_are : all_in (flag_of base flags) (depends_on base b.t b.ts) ≡ all_in (λ v. closure has base b.ts v) (depends_on base b.t b.ts) = all_along _ _ (depends_on base b.t b.ts) (λ v a.
      let d = deps_low base b.t b.ts v m.1 a in
      let other : v ≢ b.t.number = (λ same. absurd (omega (arith, same, d.1, m.0))) in
      before v d.0 (omega (arith, d.1, size)) ∙ closure-at has base b.t b.ts h v k b.at (omega (arith, d.1)) ∙ closure-other has base b.t b.ts v other) in
      let last : flag ≡ closure has base (b.t ∷ b.ts) b.t.number = e ∙ ap (λ (r : LooseRow). is_past r ports && all_in (flag_of base flags) r.deps) own ∙ ap (λ v. has b.t b.ts && v) flags_are ∙ sym (closure-own has base b.t b.ts) in
      ap (λ v. get_or (flags ++ flag ∷ []) v false) at ∙ get_or-append_seam flags flag [] false ∙ last ∙ sym (closure-at has base b.t b.ts h b.t.number k b.at (omega (arith, m.0))) ∙ ap (λ v. closure has base h v) number
]
