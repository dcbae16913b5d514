-- What stands beside each transaction of a history, and the rows of the loose machine.
use Rattle.std.proofs.Common.{◌≡◌, ℕ, suc, ◌+◌, ◌<◌, eqb, true, false, List, [], ◌∷◌, ◌++◌, length, reverse, take, get_or, sym, refl, ap, subst, ◌∙◌, inl, inr, arith}
use Rattle.std.proofs.lemmas.Bool.{cases_Bool, cases_lt}
use Rattle.std.proofs.lemmas.List.{length-reverse, reverse-append, reverse-reverse, get_or_append_left, take_more}
use Rattle.std.proofs.Math.Seq.{get_or-append_seam}
use Rattle.mq_blocks.specs.Journal.{is_among}
use Rattle.mq_ledger.specs.History.{of_queue, AreNumbered, IsAt}
use Rattle.mq_ledger.specs.Items.{number_before}
use Rattle.mq_ledger.specs.Tables.{along}
use Rattle.mq_ledger.specs.declared.tx.Tx.{Tx}
use Rattle.mq_ledger.proofs.History.{at_numbered}
use Rattle.mq_loose_order.proofs.Dependences.{deps_low}
use Rattle.mq_loose.specs.Rows.{AreRows, loose_rows, newest_number, row_for}
use Rattle.mq_loose.specs.declared.machine.rows.LooseRow.{LooseRow}

-- ---- places in a history

pub at-length : (t : Tx) (ts h : List Tx) → IsAt t ts h → length ts < length h
at-length t ts [] at = absurd at
at-length t ts (u ∷ txs) (inl same) = (let e : length txs ≡ length ts = ap length same.1 in omega arith)
at-length t ts (u ∷ txs) (inr deeper) = omega (arith, at-length t ts txs deeper)

-- the transaction with k before it
pub record HasBefore (k : ℕ) (h : List Tx) : Type 0 where
  pub t : Tx
  pub ts : List Tx
  pub at : IsAt t ts h
  pub size : length ts ≡ k

pub has_before : (k : ℕ) (h : List Tx) → k < length h → HasBefore k h
has_before k [] l = absurd (omega arith)
has_before k (u ∷ txs) l = elim (cases_lt k (length txs)) [
  | inl less ↦ (let r = has_before k txs less in record { t = r.t; ts = r.ts; at = inr r.at; size = r.size })
  | inr here ↦ record { t = u; ts = txs; at = inl (refl, refl); size = omega arith }
]

pub reverse-cons : {A : Type 0} → (x : A) (xs : List A) → reverse (x ∷ xs) ≡ reverse xs ++ x ∷ []
reverse-cons x xs = reverse-append (x ∷ []) xs

pub reverse-push : {A : Type 0} → (x : A) (xs : List A) → reverse (xs ++ x ∷ []) ≡ x ∷ reverse xs
reverse-push x xs = reverse-append xs (x ∷ [])

pub length-along : {A : Type 0} → (f : Tx → List Tx → A) (h : List Tx) → length (along f h) ≡ length h
length-along f [] = refl
length-along f (t ∷ ts) = ap suc (length-along f ts)

-- what stands beside a transaction, in a list of the oldest first
pub at-along : {A : Type 0} → (f : Tx → List Tx → A) (t : Tx) (ts h : List Tx) (d : A) → IsAt t ts h → get_or (reverse (along f h)) (length ts) d ≡ f t ts
at-along f t ts [] d at = absurd at
at-along {A} f t ts (u ∷ txs) d (inl same) =
    let size : length ts ≡ length (reverse (along f txs)) = sym (length-reverse (along f txs) ∙ length-along f txs ∙ ap length same.1) in
    let is : f u txs ≡ f t ts = cc in
    ap (λ xs. get_or xs (length ts) d) (reverse-cons (f u txs) (along f txs)) ∙ ap (λ (n : ℕ). get_or (reverse (along f txs) ++ f u txs ∷ []) n d) size ∙ get_or-append_seam (reverse (along f txs)) (f u txs) [] d ∙ is
at-along {A} f t ts (u ∷ txs) d (inr deeper) =
    let bound : length ts < length (reverse (along f txs)) = rw (length-reverse, length-along) (at-length t ts txs deeper) in
    ap (λ xs. get_or xs (length ts) d) (reverse-cons (f u txs) (along f txs)) ∙ get_or_append_left (reverse (along f txs)) (f u txs ∷ []) d (length ts) bound ∙ at-along f t ts txs d deeper

-- ---- the rows

pub row_at : (base : ℕ) (starts : List ℕ) (t : Tx) (ts h : List Tx) (rows : List LooseRow) (d : LooseRow) → rows ≡ reverse (loose_rows base starts h) → IsAt t ts h → get_or rows (length ts) d ≡ row_for base starts t ts
row_at base starts t ts h rows d is at = ap (λ rs. get_or rs (length ts) d) is ∙ at-along (row_for base starts) t ts h d at

pub length-rows : (base : ℕ) (starts : List ℕ) (h : List Tx) (rows : List LooseRow) → rows ≡ reverse (loose_rows base starts h) → length rows ≡ length h
length-rows base starts h rows is = ap (λ (rs : List LooseRow). length rs) is ∙ length-reverse (loose_rows base starts h) ∙ length-along (row_for base starts) h

-- one more
pub rows_more : (base : ℕ) (starts : List ℕ) (t : Tx) (h : List Tx) (rows more : List LooseRow) (r : LooseRow) → rows ≡ reverse (loose_rows base starts h) → r ≡ row_for base starts t h → more ≡ rows ++ r ∷ [] → more ≡ reverse (loose_rows base starts (t ∷ h))
rows_more base starts t h rows more r is own e = e ∙ (λ i. is i ++ own i ∷ []) ∙ sym (reverse-cons (row_for base starts t h) (loose_rows base starts h))

pub rows_are : (base : ℕ) (starts : List ℕ) (h : List Tx) (rows : List LooseRow) (queues : ℕ) → AreNumbered base h → ((t : Tx) (ts : List Tx) → IsAt t ts h → t.queue < queues) → rows ≡ reverse (loose_rows base starts h) → AreRows base rows queues
rows_are base starts h rows queues k own is = record {
  queue = λ n d l.
      let b = has_before n h (omega (arith, l, length-rows base starts h rows is)) in
      let at : get_or rows n d ≡ row_for base starts b.t b.ts = ap (λ m. get_or rows m d) (sym b.size) ∙ row_at base starts b.t b.ts h rows d is b.at in
      subst (λ (r : LooseRow). r.queue < queues) (sym at) (own b.t b.ts b.at);
  deps = λ n m d l a.
      let b = has_before n h (omega (arith, l, length-rows base starts h rows is)) in
      let at : get_or rows n d ≡ row_for base starts b.t b.ts = ap (λ m. get_or rows m d) (sym b.size) ∙ row_at base starts b.t b.ts h rows d is b.at in
      let r = at_numbered base b.t b.ts h k b.at in
      let low = deps_low base b.t b.ts m r.1 (subst (λ (v : LooseRow). is_among m v.deps ≡ true) at a) in
      let size = b.size in
      (low.0, omega (arith, low.1, size));
}

-- ---- the newest of a queue

pub newest-is : (base : ℕ) (starts : List ℕ) (q : ℕ) (h : List Tx) → newest_number q (loose_rows base starts h) ≡ number_before (of_queue q h)
newest-is base starts q [] = refl
newest-is base starts q (t ∷ ts) = elim (cases_Bool (eqb t.queue q)) [
  | inl own ↦ rw own refl
  | inr other ↦ rw other (newest-is base starts q ts)
]

pub newest-of : (base : ℕ) (starts : List ℕ) (q : ℕ) (h : List Tx) (rows : List LooseRow) → rows ≡ reverse (loose_rows base starts h) → newest_number q (reverse rows) ≡ number_before (of_queue q h)
newest-of base starts q h rows is = ap (λ rs. newest_number q (reverse rs)) is ∙ ap (newest_number q) (reverse-reverse (loose_rows base starts h)) ∙ newest-is base starts q h

newest-more : (q : ℕ) (rows : List LooseRow) (k : ℕ) (d : LooseRow) → k < length rows → newest_number q (reverse (take (k + 1) rows)) ≡ newest_number q (get_or rows k d ∷ reverse (take k rows))
newest-more q rows k d l = ap (λ rs. newest_number q (reverse rs)) (take_more rows k d l) ∙ ap (newest_number q) (reverse-push (get_or rows k d) (take k rows))

pub newest-skip : (q : ℕ) (rows : List LooseRow) (k : ℕ) (d : LooseRow) → k < length rows → eqb (get_or rows k d).queue q ≡ false → newest_number q (reverse (take (k + 1) rows)) ≡ newest_number q (reverse (take k rows))
newest-skip q rows k d l e = newest-more q rows k d l ∙ rw e refl

pub newest-stop : (q : ℕ) (rows : List LooseRow) (k : ℕ) (d : LooseRow) → k < length rows → eqb (get_or rows k d).queue q ≡ true → newest_number q (reverse (take (k + 1) rows)) ≡ (get_or rows k d).descriptor.number
newest-stop q rows k d l e = newest-more q rows k d l ∙ rw e refl
