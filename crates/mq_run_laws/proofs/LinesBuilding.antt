-- Lines in the order of a report, with one commit for each entry of a history, are the lines of that
-- history.
use Rattle.std.proofs.Common.{◌≡◌, ◌≢◌, ◌∙◌, ℕ, zero, suc, ◌+◌, ◌<◌, ◌≤◌, true, false, List, [], ◌∷◌, length, take, inl, inr, refl, sym, ap, subst, arith}
use Rattle.std.specs.Prelude.{Some, slice_get}
use Rattle.std.specs.List.{AllPairs, Contains}
use Rattle.std.proofs.lemmas.Bool.{true≢false}
use Rattle.std.proofs.lemmas.Option.{same_Some}
use Rattle.mq_blocks.specs.Machine.{Map, after}
use Rattle.mq_blocks.specs.declared.geometry.Geometry.{Geometry}
use Rattle.mq_calls.specs.Entries.{tx_of}
use Rattle.mq_calls.specs.declared.entry.FileEntry.{FileEntry}
use Rattle.mq_ledger.specs.History.{change_of}
use Rattle.mq_run_laws.specs.Histories.{AreLinesOf, none, commit, read, IsCommitOf, IsReadOf, map_after}
use Rattle.mq_report.specs.Lines.{Line}
use Rattle.mq_run.specs.Lines.{IsNotAfter}
use Rattle.mq_run.proofs.Rings.{not-after}
use Rattle.mq_script.specs.Scripts.{Script}
use Rattle.mq_run_laws.proofs.Pairs.{cons-cases, here, none-in, pairs-head, pairs-tail, there}

module _ (g : Geometry) (scripts : List Script) where
  -- the line is the commit of an entry of the history, or a read after the first of them
  pub data Kind (m : Map) (n : ℕ) (es : List FileEntry) (l : Line) : Type 0 where
    drawn : (i : ℕ) (e : FileEntry) → slice_get es i ≡ Some e → IsCommitOf g scripts (map_after m (take i es)) (n + i) e l → Kind m n es l
    seen : (i : ℕ) (e : FileEntry) → i ≤ length es → IsReadOf g scripts (map_after m (take i es)) (n + i) e l → Kind m n es l

-- no two commits have the same number
abbrev pub DifferIn : Line → Line → Type 0
DifferIn l m = l.commit ≡ true → m.commit ≡ true → l.number ≢ m.number

-- an entry has its commit among the lines
abbrev pub HasLineAt : List Line → ℕ → Type 0
HasLineAt lines n = (l : Line) × Contains lines l × (l.commit ≡ true) × (l.number ≡ n)

-- a read stands behind the commit of its number
read-below : (l m : Line) → l.commit ≡ false → m.commit ≡ true → IsNotAfter l m → l.number < m.number
read-below l m nay yea (inl h) = h
read-below l m nay yea (inr (inl h)) = absurd (true≢false (sym h.1 ∙ nay))
read-below l m nay yea (inr (inr (inl h))) = absurd (true≢false (sym yea ∙ (sym h.1 ∙ nay)))
read-below l m nay yea (inr (inr (inr h))) = absurd (true≢false (sym yea ∙ (sym h.1 ∙ nay)))

-- the line of the next number is the first or behind it
rest-line : (l : Line) (ls : List Line) (n : ℕ) → HasLineAt (l ∷ ls) n → (l.commit ≡ true → l.number ≢ n) → HasLineAt ls n
rest-line l ls n h other = elim (cons-cases h.0 l ls h.1) [
  | inl e ↦ absurd (other (ap (λ (k : Line). k.commit) e ∙ h.2) (ap (λ (k : Line). k.number) e ∙ h.3))
  | inr c ↦ (h.0, c, h.2, h.3)
]

module _ (g : Geometry) (scripts : List Script) where
  -- after the first entry
  kind-on : (m : Map) (n : ℕ) (x : FileEntry) (es : List FileEntry) (k : Line) → n + 1 ≤ k.number → (k.commit ≡ true → k.number ≢ n + 1) → Kind g scripts m n (x ∷ es) k → Kind g scripts (after m (change_of (tx_of x))) (n + 1) es k
  kind-on m n x es k low other (drawn zero e at c) = let is = c.number in absurd (other c.commit (omega arith))
  kind-on m n x es k low other (drawn (suc i) e at c) =
      let same : n + suc i ≡ (n + 1) + i = omega arith in
      drawn i e at (subst (λ (j : ℕ). IsCommitOf g scripts (map_after m (take (suc i) (x ∷ es))) j e k) same c)
  kind-on m n x es k low other (seen zero e few r) = let is = r.number in absurd (omega arith)
  kind-on m n x es k low other (seen (suc i) e few r) =
      let same : n + suc i ≡ (n + 1) + i = omega arith in
      seen i e (omega arith) (subst (λ (j : ℕ). IsReadOf g scripts (map_after m (take (suc i) (x ∷ es))) j e k) same r)

  -- what is to be shown of a list of lines
  abbrev Builds : List Line → Type 0
  Builds lines =
      (es : List FileEntry) (m : Map) (n : ℕ)
      → AllPairs IsNotAfter lines
      → AllPairs DifferIn lines
      → ((l : Line) → Contains lines l → Kind g scripts m n es l)
      → ((i : ℕ) (e : FileEntry) → slice_get es i ≡ Some e → HasLineAt lines (n + suc i))
      → AreLinesOf g scripts m n es lines

  with-commit : (l : Line) (ls : List Line) → Builds ls → (es : List FileEntry) (m : Map) (n i : ℕ) (e : FileEntry) → AllPairs IsNotAfter (l ∷ ls) → AllPairs DifferIn (l ∷ ls)
      → ((k : Line) → Contains (l ∷ ls) k → Kind g scripts m n es k) → ((j : ℕ) (x : FileEntry) → slice_get es j ≡ Some x → HasLineAt (l ∷ ls) (n + suc j))
      → slice_get es i ≡ Some e → IsCommitOf g scripts (map_after m (take i es)) (n + i) e l
      → AreLinesOf g scripts m n es (l ∷ ls)
  with-commit l ls rest [] m n i e order differ kinds each at c = absurd (cc)
  with-commit l ls rest (x ∷ es) m n (suc i) e order differ kinds each at c =
      let is = c.number in
      let first = rest-line l ls (n + 1) (each 0 x refl) (λ yea same. omega arith) in
      let le = not-after l first.0 (pairs-head IsNotAfter l ls first.0 order first.1) in
      let same = first.3 in
      absurd (omega arith)
  with-commit l ls rest (x ∷ es) m n zero e order differ kinds each at c =
      let is = c.number in
      let at_n : n + 0 ≡ n = omega arith in
      let own : IsCommitOf g scripts m n e l = subst (λ (j : ℕ). IsCommitOf g scripts m j e l) at_n c in
      let first : IsCommitOf g scripts m n x l = subst (λ (y : FileEntry). IsCommitOf g scripts m n y l) (sym (same_Some x e at)) own in
      commit x l first
      (rest es (after m (change_of (tx_of x))) (n + 1) (pairs-tail IsNotAfter l ls order) (pairs-tail DifferIn l ls differ)
      (λ k there_is.
      let le = not-after l k (pairs-head IsNotAfter l ls k order there_is) in
      kind-on m n x es k (omega arith) (λ yea same. pairs-head DifferIn l ls k differ there_is c.commit yea (omega arith)) (kinds k (there k l ls there_is)))
      (λ j y e.
      let more = rest-line l ls (n + suc (suc j)) (each (suc j) y e) (λ yea same. omega arith) in
      let same : n + suc (suc j) ≡ (n + 1) + suc j = omega arith in
      (more.0, more.1, more.2, more.3 ∙ same)))

  -- a read stands before the first commit
  at-first : (l : Line) (ls : List Line) (es : List FileEntry) (n i : ℕ) → AllPairs IsNotAfter (l ∷ ls) → ((j : ℕ) (x : FileEntry) → slice_get es j ≡ Some x → HasLineAt (l ∷ ls) (n + suc j)) → i ≤ length es → l.commit ≡ false → l.number ≡ n + i → i ≡ 0
  at-first l ls [] n i order each few nay is = omega arith
  at-first l ls (x ∷ es) n i order each few nay is =
      let first = rest-line l ls (n + 1) (each 0 x refl) (λ yea same. true≢false (sym yea ∙ nay)) in
      let lt = read-below l first.0 nay first.2 (pairs-head IsNotAfter l ls first.0 order first.1) in
      let same = first.3 in
      omega arith

  with-read : (l : Line) (ls : List Line) → Builds ls → (es : List FileEntry) (m : Map) (n i : ℕ) (e : FileEntry) → AllPairs IsNotAfter (l ∷ ls) → AllPairs DifferIn (l ∷ ls)
      → ((k : Line) → Contains (l ∷ ls) k → Kind g scripts m n es k) → ((j : ℕ) (x : FileEntry) → slice_get es j ≡ Some x → HasLineAt (l ∷ ls) (n + suc j))
      → i ≤ length es → IsReadOf g scripts (map_after m (take i es)) (n + i) e l
      → AreLinesOf g scripts m n es (l ∷ ls)
  with-read l ls rest es m n i e order differ kinds each few r =
      let z = at-first l ls es n i order each few r.commit r.number in
      let at_n : n + i ≡ n = omega arith in
      let own : IsReadOf g scripts m n e l = subst (λ (j : ℕ). IsReadOf g scripts m j e l) at_n (subst (λ (k : ℕ). IsReadOf g scripts (map_after m (take k es)) (n + i) e l) z r) in
      read e l own
      (rest es m n (pairs-tail IsNotAfter l ls order) (pairs-tail DifferIn l ls differ)
      (λ k there_is. kinds k (there k l ls there_is))
      (λ j y e. rest-line l ls (n + suc j) (each j y e) (λ yea same. true≢false (sym yea ∙ r.commit))))

  pub build : (lines : List Line) → Builds lines
  build [] [] m n order differ kinds each = none
  build [] (e ∷ es) m n order differ kinds each = let h = each 0 e refl in absurd (none-in h.0 h.1)
  build (l ∷ ls) es m n order differ kinds each = elim (kinds l (here l ls)) [
    | drawn i e at c ↦ with-commit l ls (build ls) es m n i e order differ kinds each at c
    | seen i e few r ↦ with-read l ls (build ls) es m n i e order differ kinds each few r
  ]
