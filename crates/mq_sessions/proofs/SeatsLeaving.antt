-- Those who leave a desk, the last one first.
use Rattle.std.proofs.Common.{◌≡◌, List, [], ◌∷◌, ◌++◌, map, sym, ap, ◌∙◌, append-nil, append_assoc}
use Rattle.std.specs.Prelude.{reverse}
use Rattle.std.proofs.lemmas.List.{map-append, reverse-append}

-- the part of the last one that is left goes behind those that were taken
pub left-more : {A B : Type 0} (part : B → A) (before now : List B) (b : B) (taken more all : List A) → before ≡ now ++ b ∷ [] → more ≡ taken ++ part b ∷ [] → map part before ++ reverse taken ≡ all → map part now ++ reverse more ≡ all
left-more {A} {B} part before now b taken more all is pushed left =
    ap (λ (xs : List A). map part now ++ xs) (ap reverse pushed ∙ reverse-append taken (part b ∷ []))
    ∙ (sym (append_assoc (map part now) (part b ∷ []) (reverse taken))
    ∙ (ap (λ (xs : List A). xs ++ reverse taken) (sym (ap (λ (bs : List B). map part bs) is ∙ map-append part now (b ∷ []))) ∙ left))

-- none was taken
pub left-first : {A B : Type 0} (part : B → A) (before : List B) (taken : List A) → taken ≡ [] → map part before ++ reverse taken ≡ map part before
left-first {A} part before taken none = ap (λ (xs : List A). map part before ++ reverse xs) none ∙ append-nil (map part before)

-- none is left
pub left-last : {A B : Type 0} (part : B → A) (now : List B) (taken all : List A) → now ≡ [] → map part now ++ reverse taken ≡ all → reverse taken ≡ all
left-last {B = B} part now taken all none left = ap (λ (bs : List B). map part bs ++ reverse taken) (sym none) ∙ left
