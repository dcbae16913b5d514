-- The bytes of a file that is written or cut, one by one.
use Rattle.std.proofs.Common.{get_or, ◌≡◌, ℕ, ◌+◌, ◌-◌, ◌<◌, inl, inr, List, [], ◌∷◌, ◌++◌, length, take, drop, replicate, refl, sym, ap, ◌∙◌, arith, length-append, length-drop, length-take}
use Rattle.std.proofs.lemmas.Bool.{cases_lt}
use Rattle.std.proofs.lemmas.List.{get_or_past, get_or-append_right, get_or-take, get_or-drop, get_or_append_left}
use Rattle.mq_tree.specs.Kept.{IsCut, IsSpliced}
use Rattle.mq_tree.specs.Requests.{cut_to, spliced}
use Rattle.mq_tree.proofs.RequestsNodes.{cut-length, zeros-at}

pub cut-at : (size : ℕ) (old : List ℕ) (k : ℕ) → k < size → get_or (cut_to size old) k 0 ≡ get_or old k 0
cut-at size old k low =
    let n = length-take size old in
    elim (cases_lt k (length old)) [
      | inl inside ↦ get_or_append_left (take size old) (replicate (size - length old) 0) 0 k (omega arith) ∙ get_or-take size old k 0 low
      | inr past ↦
          get_or-append_right (take size old) (replicate (size - length old) 0) (length (take size old)) k 0 refl (omega arith) ∙ zeros-at (size - length old) (k - length (take size old))
          ∙ sym (get_or_past old k 0 past)
    ]

pub cut-is : (size : ℕ) (old : List ℕ) → IsCut size old (cut_to size old)
cut-is size old = record { length_is = cut-length size old; bytes = λ k low. cut-at size old k low }

some-spliced : (at : ℕ) (x : ℕ) (xs old : List ℕ) → IsSpliced at (x ∷ xs) old (spliced at (x ∷ xs) old)
some-spliced at x xs old =
    let new = x ∷ xs in
    let a = cut_to at old in
    let rest = drop (at + length new) old in
    let size = cut-length at old in
    let first = length-append a new in
    let dropped = length-drop (at + length new) old in
    let whole = length-append (a ++ new) rest in
    record {
      none = λ e. cons-none x xs e;
      size = λ some. omega arith;
      here = λ k low.
          let j : at + k - at ≡ k = omega arith in
          get_or_append_left (a ++ new) rest 0 (at + k) (omega arith) ∙ get_or-append_right a new at (at + k) 0 size (omega arith) ∙ ap (λ (i : ℕ). get_or new i 0) j;
      others = λ k h. elim h [
        | inl low ↦ get_or_append_left (a ++ new) rest 0 k (omega arith) ∙ get_or_append_left a new 0 k (omega arith) ∙ cut-at at old k low
        | inr past ↦
            let j : at + length new + (k - (at + length new)) ≡ k = omega arith in
            let l : length (a ++ new) ≡ at + length new = omega arith in
            get_or-append_right (a ++ new) rest (at + length new) k 0 l past ∙ get_or-drop (at + length new) old (k - (at + length new)) 0 ∙ ap (λ (i : ℕ). get_or old i 0) j
      ];
    }
  where
    cons-none : {R : Type 0} (x : ℕ) (xs : List ℕ) → x ∷ xs ≡ [] → R
    cons-none x xs e = absurd (cc)

pub spliced-is : (at : ℕ) (bytes old : List ℕ) → IsSpliced at bytes old (spliced at bytes old)
spliced-is at [] old = record { none = λ e. refl; size = λ some. absurd (some refl); here = λ k low. absurd (omega arith); others = λ k h. refl }
spliced-is at (x ∷ xs) old = some-spliced at x xs old
