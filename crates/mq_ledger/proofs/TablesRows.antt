-- What stands beside each transaction of a history, and the rows of a queue.
use Rattle.std.proofs.Common.{◌≡◌, ℕ, suc, ◌+◌, ◌<◌, ◌≤◌, leb, Bool, true, false, List, [], ◌∷◌, ◌++◌, length, reverse, take, get_or, sym, refl, ap, subst, ◌∙◌, inl, inr, arith}
use Rattle.std.proofs.lemmas.Bool.{cases_Bool, cases_lt}
use Rattle.std.proofs.lemmas.List.{length-reverse, reverse-append, get_or_append_left, take_more, length-take-le}
use Rattle.std.proofs.Math.Seq.{get_or-append_seam}
use Rattle.mq_ledger.specs.History.{writes, upto, IsAt, IsPart}
use Rattle.mq_ledger.specs.Items.{total, end_of, below, descriptor_blocks}
use Rattle.mq_ledger.specs.Tables.{along, row_of, rows_of, no_row, row_before, rows_from, ends_by, is_up_to}
use Rattle.mq_ledger.specs.declared.queue_rows.Row.{Row}
use Rattle.mq_ledger.specs.declared.tx.Tx.{Tx}
use Rattle.mq_ledger.proofs.Items.{below-at, below-past, length-below_le}
use Rattle.mq_ledger.proofs.HistoryQueues.{IsFalling, number_falls, at_end}

-- ---- places in a history

pub at-length : (t : Tx) (ts h : List Tx) → IsAt t ts h → length ts < length h
at-length t ts [] at = absurd at
at-length t ts (u ∷ txs) (inl same) = (let e : length txs ≡ length ts = ap length same.1 in omega arith)
at-length t ts (u ∷ txs) (inr deeper) = omega (arith, at-length t ts txs deeper)

-- the transaction with k before it
pub record HasBefore (k : ℕ) (h : List Tx) : Type 0 where
  pub t : Tx
  pub ts : List Tx
  pub at : IsAt t ts h
  pub size : length ts ≡ k

pub has_before : (k : ℕ) (h : List Tx) → k < length h → HasBefore k h
has_before k [] l = absurd (omega arith)
has_before k (u ∷ txs) l = elim (cases_lt k (length txs)) [
  | inl less ↦ (let r = has_before k txs less in record { t = r.t; ts = r.ts; at = inr r.at; size = r.size })
  | inr here ↦ record { t = u; ts = txs; at = inl (refl, refl); size = omega arith }
]

pub reverse-cons : {A : Type 0} → (x : A) (xs : List A) → reverse (x ∷ xs) ≡ reverse xs ++ x ∷ []
reverse-cons x xs = reverse-append (x ∷ []) xs

pub reverse-push : {A : Type 0} → (x : A) (xs : List A) → reverse (xs ++ x ∷ []) ≡ x ∷ reverse xs
reverse-push x xs = reverse-append xs (x ∷ [])

pub length-along : {A : Type 0} → (f : Tx → List Tx → A) (h : List Tx) → length (along f h) ≡ length h
length-along f [] = refl
length-along f (t ∷ ts) = ap suc (length-along f ts)

-- what stands beside a transaction, in a list of the oldest first
pub at-along : {A : Type 0} → (f : Tx → List Tx → A) (t : Tx) (ts h : List Tx) (d : A) → IsAt t ts h → get_or (reverse (along f h)) (length ts) d ≡ f t ts
at-along f t ts [] d at = absurd at
at-along {A} f t ts (u ∷ txs) d (inl same) =
    let size : length ts ≡ length (reverse (along f txs)) = sym (length-reverse (along f txs) ∙ length-along f txs ∙ ap length same.1) in
    let is : f u txs ≡ f t ts = cc in
    ap (λ xs. get_or xs (length ts) d) (reverse-cons (f u txs) (along f txs)) ∙ ap (λ (n : ℕ). get_or (reverse (along f txs) ++ f u txs ∷ []) n d) size ∙ get_or-append_seam (reverse (along f txs)) (f u txs) [] d ∙ is
at-along {A} f t ts (u ∷ txs) d (inr deeper) =
    let bound : length ts < length (reverse (along f txs)) = rw (length-reverse, length-along) (at-length t ts txs deeper) in
    ap (λ xs. get_or xs (length ts) d) (reverse-cons (f u txs) (along f txs)) ∙ get_or_append_left (reverse (along f txs)) (f u txs ∷ []) d (length ts) bound ∙ at-along f t ts txs d deeper

along-same : (h : List Tx) → along (λ t ts. t) h ≡ h
along-same [] = refl
along-same (t ∷ ts) = ap (λ txs. t ∷ txs) (along-same ts)

pub at-history : (t : Tx) (ts h : List Tx) (d : Tx) → IsAt t ts h → get_or (reverse h) (length ts) d ≡ t
at-history t ts h d at = ap (λ (txs : List Tx). get_or (reverse txs) (length ts) d) (sym (along-same h)) ∙ at-along (λ t ts. t) t ts h d at

at_append : (t : Tx) (ts newer : List Tx) → IsAt t ts (newer ++ t ∷ ts)
at_append t ts [] = inl (refl, refl)
at_append t ts (u ∷ txs) = inr (at_append t ts txs)

pub part-at : (t : Tx) (ts h : List Tx) → IsPart (t ∷ ts) h → IsAt t ts h
part-at t ts h p = subst (IsAt t ts) (sym p.1) (at_append t ts p.0)

pub part-same : (h : List Tx) → IsPart h h
part-same h = ([], refl)

part-more : (t : Tx) (txs h : List Tx) → IsPart txs h → IsPart txs (t ∷ h)
part-more t txs h p = (t ∷ p.0, ap (λ ws. t ∷ ws) p.1)

pub below-part : (from h : ℕ) (txs : List Tx) → IsPart (below from h txs) txs
below-part from h [] = part-same []
below-part from h (t ∷ txs) = elim (cases_lt h (from + total (t ∷ txs))) [
  | inl less ↦ rw (below-past from h t txs less) (part-more t _ txs (below-part from h txs))
  | inr at ↦ rw (below-at from h t txs at) (part-same (t ∷ txs))
]

pub upto-part : (n : ℕ) (txs : List Tx) → IsPart (upto n txs) txs
upto-part n [] = part-same []
upto-part n (t ∷ txs) = elim (cases_Bool (leb t.number n)) [
  | inl is ↦ rw is (part-same (t ∷ txs))
  | inr not ↦ rw not (part-more t _ txs (upto-part n txs))
]

-- ---- rows

pub row-part : (from : ℕ) (vs txs : List Tx) → IsPart vs txs → row_before from (reverse (rows_of from txs)) (length vs) ≡ row_of from vs
row-part from [] txs p = (let e : from ≡ from + 0 = omega arith in ap no_row e)
row-part from (t ∷ vs) txs p = at-along (λ u ws. row_of from (u ∷ ws)) t vs txs (no_row from) (part-at t vs txs p)

pub row-at : (from : ℕ) (t : Tx) (vs txs : List Tx) (d : Row) → IsAt t vs txs → get_or (reverse (rows_of from txs)) (length vs) d ≡ row_of from (t ∷ vs)
row-at from t vs txs d at = at-along (λ u ws. row_of from (u ∷ ws)) t vs txs d at

pub rows-ended : (from count : ℕ) (txs : List Tx) → rows_from (ends_by count) (rows_of from txs) ≡ length (below from count txs)
rows-ended from count [] = refl
rows-ended from count (t ∷ txs) = elim (cases_Bool (leb (end_of from (t ∷ txs)) count)) [
  | inl is ↦ rw is (ap suc (length-along (λ u ws. row_of from (u ∷ ws)) txs))
  | inr not ↦ rw not (rows-ended from count txs)
]

pub rows-up_to : (from number : ℕ) (txs : List Tx) → rows_from (is_up_to number) (rows_of from txs) ≡ length (upto number txs)
rows-up_to from number [] = refl
rows-up_to from number (t ∷ txs) = elim (cases_Bool (leb t.number number)) [
  | inl is ↦ rw is (ap suc (length-along (λ u ws. row_of from (u ∷ ws)) txs))
  | inr not ↦ rw not (rows-up_to from number txs)
]

-- a pass over rows from the newest on
pub rows-skip : (has : Row → Bool) (rows : List Row) (k : ℕ) (d : Row) → k < length rows → has (get_or rows k d) ≡ false → rows_from has (reverse (take (k + 1) rows)) ≡ rows_from has (reverse (take k rows))
rows-skip has rows k d l e = ap (λ rs. rows_from has (reverse rs)) (take_more rows k d l) ∙ ap (rows_from has) (reverse-push (get_or rows k d) (take k rows)) ∙ rw e refl

pub rows-stop : (has : Row → Bool) (rows : List Row) (k : ℕ) (d : Row) → k < length rows → has (get_or rows k d) ≡ true → rows_from has (reverse (take (k + 1) rows)) ≡ k + 1
rows-stop has rows k d l e =
    let size : suc (length (reverse (take k rows))) ≡ k + 1 = omega (arith, length-reverse (take k rows), length-take-le k rows) in
    ap (λ rs. rows_from has (reverse rs)) (take_more rows k d l) ∙ ap (rows_from has) (reverse-push (get_or rows k d) (take k rows)) ∙ rw e size

-- ---- the oldest transaction that ends behind a count

below-full : (from h : ℕ) (txs : List Tx) → length txs ≤ length (below from h txs) → (t : Tx) (ws : List Tx) → IsAt t ws txs → end_of from ws + (writes t + descriptor_blocks t) ≤ h
below-full from h [] l t ws at = absurd at
below-full from h (u ∷ txs) l t ws at = elim (cases_lt h (from + total (u ∷ txs))) [
  | inl less ↦ absurd (let k = rw (below-past from h u txs less) at l in let few = length-below_le from h txs in omega arith)
  | inr full ↦ (let k = at_end from t ws (u ∷ txs) at in omega arith)
]

pub record LeastUndone (from h : ℕ) (txs : List Tx) : Type 0 where
  pub u : Tx
  pub vs : List Tx
  pub at : IsAt u vs txs
  pub size : length vs ≡ length (below from h txs)
  pub above : h < end_of from vs + (writes u + descriptor_blocks u)
  pub least : (t : Tx) (ws : List Tx) → IsAt t ws txs → h < end_of from ws + (writes t + descriptor_blocks t) → u.number ≤ t.number

pub none_undone : (from h : ℕ) (txs : List Tx) → length txs ≤ length (below from h txs) → (t : Tx) (ws : List Tx) → IsAt t ws txs → h < end_of from ws + (writes t + descriptor_blocks t) → ⊥
none_undone from h txs l t ws at past = (let k = below-full from h txs l t ws at in absurd (omega arith))

pub least_undone : (q from h : ℕ) (txs : List Tx) → IsFalling q txs → length (below from h txs) < length txs → LeastUndone from h txs
least_undone q from h [] f l = absurd (omega arith)
least_undone q from h (t ∷ txs) f l = elim (cases_lt h (from + total (t ∷ txs))) [
  | inr full ↦ absurd (let k = rw (below-at from h t txs full) at l in omega arith)
  | inl less ↦ elim (cases_lt (length (below from h txs)) (length txs)) [
    | inl more ↦
        (let r = least_undone q from h txs f.2 more in
        record {
          u = r.u;
          vs = r.vs;
          at = inr r.at;
          size = r.size ∙ ap length (sym (below-past from h t txs less));
          above = r.above;
          least = λ v ws at past. at_least r v ws at past;
        })
    | inr none ↦ record {
      u = t;
      vs = txs;
      at = inl (refl, refl);
      size = (let few = length-below_le from h txs in let e : length txs ≡ length (below from h txs) = omega arith in e ∙ ap length (sym (below-past from h t txs less)));
      above = omega arith;
      least = λ v ws at past. elim at [ inl same ↦ (let e : t.number ≡ v.number = ap (λ (w : Tx). w.number) same.0 in omega arith) | inr deeper ↦ absurd (none_undone from h txs none v ws deeper past) ];
    }
  ]
]
  where
    at_least : (r : LeastUndone from h txs) → (v : Tx) (ws : List Tx) → IsAt v ws (t ∷ txs) → h < end_of from ws + (writes v + descriptor_blocks v) → r.u.number ≤ v.number
    at_least r v ws (inl same) past = (let e : t.number ≡ v.number = ap (λ (w : Tx). w.number) same.0 in let k = number_falls q r.u r.vs txs f.2 r.at in let up = f.1 in omega arith)
    at_least r v ws (inr deeper) past = r.least v ws deeper past
