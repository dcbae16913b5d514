-- What a session has pushed, by the numbers that it has announced.
use Rattle.std.proofs.Common.{◌≡◌, ℕ, List, [], ◌∷◌, ◌++◌, length, ap, sym, ◌∙◌, append-nil}
use Rattle.std.proofs.lemmas.List.{length-map, map-append}
use Rattle.std.specs.Prelude.{Option, Some, None}
use Rattle.mq_notices.specs.Notices.{all_of, numbers_in, some_of}
use Rattle.mq_notices.proofs.Lists.{pushed-more}

module _ (old new : List (Option ℕ)) (is : old ≡ some_of (numbers_in old)) where
  pub open-length : length old ≡ length (numbers_in old)
  open-length = ap length is ∙ length-map (numbers_in old) (λ n. Some n)

  pub announced-more : (n : ℕ) → new ≡ old ++ Some n ∷ [] → (numbers_in new ≡ numbers_in old ++ n ∷ []) × (new ≡ some_of (numbers_in new))
  announced-more n more =
      let numbers : numbers_in new ≡ numbers_in old ++ n ∷ [] = ap (λ (l : List (Option ℕ)). numbers_in l) more ∙ pushed-more old (Some n) in
      let split : some_of (numbers_in old ++ n ∷ []) ≡ some_of (numbers_in old) ++ Some n ∷ [] = map-append (λ m. Some m) (numbers_in old) (n ∷ []) in
      (numbers, more ∙ ap (λ (l : List (Option ℕ)). l ++ Some n ∷ []) is ∙ sym split ∙ ap (λ (l : List ℕ). some_of l) (sym numbers))

  pub announced-all : new ≡ old ++ None ∷ [] → (numbers_in new ≡ numbers_in old) × (new ≡ all_of (numbers_in new))
  announced-all more =
      let numbers : numbers_in new ≡ numbers_in old = ap (λ (l : List (Option ℕ)). numbers_in l) more ∙ pushed-more old None ∙ append-nil (numbers_in old) in
      (numbers, more ∙ ap (λ (l : List (Option ℕ)). l ++ None ∷ []) is ∙ ap (λ (l : List ℕ). all_of l) (sym numbers))
