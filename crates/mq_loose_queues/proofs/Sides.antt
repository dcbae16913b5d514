-- One of the sides is another now, and the others stay.
use Rattle.std.proofs.Common.{◌≡◌, ◌≢◌, ℕ, suc, zero, ◌<◌, List, [], ◌∷◌, length, map, set, get_or, refl, sym, ap, subst, ◌∙◌, inl, inr}
use Rattle.std.proofs.lemmas.Bool.{cases_eq}
use Rattle.std.proofs.lemmas.List.{get_or-set_same, get_or-set_other, length-set}
use Rattle.mq_loose_queues.specs.Queues.{QueuesState, StoredSide, at_queue, no_side}

pub map-set : {A B : Type 0} → (f : A → B) (xs : List A) (n : ℕ) (x : A) → map f (set xs n x) ≡ set (map f xs) n (f x)
map-set f [] n x = refl
map-set f (y ∷ ys) zero x = refl
map-set f (y ∷ ys) (suc n) x = ap (λ zs. f y ∷ zs) (map-set f ys n x)

-- the queue's side is this one now
pub record IsMoved (v : QueuesState) (q : ℕ) (s : StoredSide) (w : QueuesState) : Type 0 where
  pub geometry : w.geometry ≡ v.geometry
  pub sides : w.sides ≡ set v.sides q s

module _ (v : QueuesState) (q : ℕ) (s : StoredSide) (w : QueuesState) (m : IsMoved v q s w) where
  pub at_same : q < length v.sides → at_queue w q ≡ s
  at_same own = (λ i. get_or (m.sides i) q (no_side (m.geometry i))) ∙ get_or-set_same v.sides q s (no_side v.geometry) own

  pub at_other : (r : ℕ) → r ≢ q → at_queue w r ≡ at_queue v r
  at_other r other = (λ i. get_or (m.sides i) r (no_side (m.geometry i))) ∙ get_or-set_other v.sides q r s (no_side v.geometry) other

  pub same_count : length w.sides ≡ length v.sides
  same_count = ap (λ (xs : List StoredSide). length xs) m.sides ∙ length-set v.sides q s

  -- what holds of this one, and of the others as they were
  pub each_side : (A : ℕ → StoredSide → Type 0) → q < length v.sides → A q s → ((r : ℕ) → r ≢ q → A r (at_queue v r)) → (r : ℕ) → A r (at_queue w r)
  each_side A own here there r = elim (cases_eq r q) [
    | inl same ↦ subst (λ n. A n (at_queue w n)) (sym same) (subst (λ x. A q x) (sym (at_same own)) here)
    | inr other ↦ subst (λ x. A r x) (sym (at_other r other)) (there r other)
  ]
