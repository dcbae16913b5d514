-- The twelve pointers of an inode, where the blocks get more or fewer.
use Rattle.std.proofs.Common.{get_or, set, ◌≡◌, ℕ, ◌<◌, ◌≤◌, List, [], ◌∷◌, ◌++◌, length, take, sym, ap, ◌∙◌, arith, inl, inr, length-append, length-set, length-take, get_or-set_same, get_or-set_other}
use Rattle.std.proofs.lemmas.Bool.{cases_eq, cases_lt}
use Rattle.std.proofs.lemmas.List.{get_or_append_left, get_or_at, get_or_default, get_or_past, get_or-take, same_lists}
use Rattle.mq_tree.proofs.CleanLaid.{length-padded}
use Rattle.mq_tree.specs.Laid.{padded}
use Rattle.mq_tree.proofs.LaidUnique.{padded-at}

-- one of the first twelve pointers is set
pub padded-near : (xs : List ℕ) (b : ℕ) → length xs < 12 → padded 12 (xs ++ b ∷ []) ≡ set (padded 12 xs) (length xs) b
padded-near xs b near =
    let m = length-padded 12 (xs ++ b ∷ []) in
    let n = length-padded 12 xs in
    let s = length-set (padded 12 xs) (length xs) b in
    same_lists _ _ (omega arith) (λ k d l.
    let low : k < 12 = omega arith in
    get_or_default (padded 12 (xs ++ b ∷ [])) k d 0 l ∙ padded-at 12 (xs ++ b ∷ []) k low ∙ at k low ∙ get_or_default (set (padded 12 xs) (length xs) b) k 0 d (omega arith))
  where
    at : (k : ℕ) → k < 12 → get_or (xs ++ b ∷ []) k 0 ≡ get_or (set (padded 12 xs) (length xs) b) k 0
    at k low = elim (cases_eq k (length xs)) [
      | inl e ↦
          let n = length-padded 12 xs in
          get_or_at xs b [] 0 k (sym e) ∙ sym (ap (λ (j : ℕ). get_or (set (padded 12 xs) (length xs) b) j 0) e ∙ get_or-set_same (padded 12 xs) (length xs) b 0 (omega arith))
      | inr other ↦ elim (cases_lt k (length xs)) [
        | inl inside ↦ get_or_append_left xs (b ∷ []) 0 k inside ∙ sym (get_or-set_other (padded 12 xs) (length xs) k b 0 other ∙ padded-at 12 xs k low)
        | inr past ↦
            let n = length-append xs (b ∷ []) in
            get_or_past (xs ++ b ∷ []) k 0 (omega arith) ∙ sym (get_or-set_other (padded 12 xs) (length xs) k b 0 other ∙ padded-at 12 xs k low ∙ get_or_past xs k 0 past)
      ]
    ]

-- the pointers from the new end on are 0
pub padded-cut : (xs : List ℕ) (count k : ℕ) → k < 12 → k < count → get_or (padded 12 (take count xs)) k 0 ≡ get_or (padded 12 xs) k 0
padded-cut xs count k low inside = padded-at 12 (take count xs) k low ∙ get_or-take count xs k 0 inside ∙ sym (padded-at 12 xs k low)

pub padded-past : (xs : List ℕ) (count k : ℕ) → k < 12 → count ≤ k → get_or (padded 12 (take count xs)) k 0 ≡ 0
padded-past xs count k low past = let n = length-take count xs in padded-at 12 (take count xs) k low ∙ get_or_past (take count xs) k 0 (omega arith)
