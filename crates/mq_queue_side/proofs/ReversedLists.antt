-- A list that is made of another, the last element first.
use Rattle.std.proofs.Common.{◌≡◌, ℕ, zero, suc, ◌+◌, List, [], ◌∷◌, ◌++◌, length, map, refl, sym, ap, subst, ◌∙◌, append-nil, append_assoc, arith}
use Rattle.std.specs.Prelude.{Some, reverse, slice_get}
use Rattle.std.proofs.lemmas.List.{length_push, reverse-append}
use Rattle.std.proofs.lemmas.Option.{same_Some}

get-middle : {A : Type 0} (xs : List A) (y : A) (ys : List A) → slice_get (xs ++ y ∷ ys) (length xs) ≡ Some y
get-middle [] y ys = refl
get-middle (x ∷ xs) y ys = get-middle xs y ys

module _ {A B : Type 0} (part : B → A) where
  -- what was made is taken apart again: the parts of what is left stand behind those that are back
  pub back-more : (back more : List A) (made now : List B) (b : B) → made ≡ now ++ b ∷ [] → more ≡ back ++ part b ∷ [] → more ++ map part (reverse now) ≡ back ++ map part (reverse made)
  back-more back more made now b is pushed =
      ap (λ (xs : List A). xs ++ map part (reverse now)) pushed
      ∙ (append_assoc back (part b ∷ []) (map part (reverse now))
      ∙ ap (λ (bs : List B). back ++ map part bs) (sym (ap reverse is ∙ reverse-append now (b ∷ []))))

module _ {A B : Type 0} (part : B → A) (Is : ℕ → B → Type 0) where
  -- Each element behind those that are left has become a part of what is made.
  pub record HasMoved (all left : List A) (made : List B) : Type 0 where
    pub parts : left ++ map part (reverse made) ≡ all
    pub each : (k : ℕ) (b : B) → slice_get (reverse made) k ≡ Some b → Is (length left + k) b

  each-more : (n : ℕ) (b : B) (bs : List B) → Is n b → ((k : ℕ) (x : B) → slice_get bs k ≡ Some x → Is (suc n + k) x) → (k : ℕ) (x : B) → slice_get (b ∷ bs) k ≡ Some x → Is (n + k) x
  each-more n b bs first others zero x e =
      let at : n ≡ n + 0 = omega arith in
      subst (λ (k : ℕ). Is k x) at (subst (Is n) (same_Some _ _ e) first)
  each-more n b bs first others (suc k) x e =
      let at : suc n + k ≡ n + suc k = omega arith in
      subst (λ (j : ℕ). Is j x) at (others k x e)

  pub moved-none : (all : List A) (made : List B) → made ≡ [] → HasMoved all all made
  moved-none all made none = record {
    parts = ap (λ (bs : List B). all ++ map part (reverse bs)) none ∙ append-nil all;
    each = λ k b e. let at : slice_get (reverse {A = B} []) k ≡ Some b = ap (λ (bs : List B). slice_get (reverse bs) k) (sym none) ∙ e in absurd (cc);
  }

  -- the last one that is left stands at its place
  pub moved-next : (all left now : List A) (made : List B) (a : A) → HasMoved all left made → left ≡ now ++ a ∷ [] → slice_get all (length now) ≡ Some a
  moved-next all left now made a h is =
      ap (λ (xs : List A). slice_get xs (length now)) (sym h.parts ∙ (ap (λ (xs : List A). xs ++ map part (reverse made)) is ∙ append_assoc now (a ∷ []) (map part (reverse made))))
      ∙ get-middle now a (map part (reverse made))

  pub moved-more : (all left now : List A) (made more : List B) (n : ℕ) (a : A) (b : B)
      → HasMoved all left made → left ≡ now ++ a ∷ [] → n ≡ length now → part b ≡ a → Is n b → more ≡ made ++ b ∷ []
      → HasMoved all now more
  moved-more all left now made more n a b h is at same this pushed =
      let turned : reverse more ≡ b ∷ reverse made = ap reverse pushed ∙ reverse-append made (b ∷ []) in
      let count : length left ≡ suc (length now) = let l = ap length is ∙ length_push now a in omega arith in
      record {
        parts = ap (λ (bs : List B). now ++ map part bs) turned ∙ (ap (λ (x : A). now ++ x ∷ map part (reverse made)) same ∙ (sym (append_assoc now (a ∷ []) (map part (reverse made))) ∙ (ap (λ (xs : List A). xs ++ map part (reverse made)) (sym is) ∙ h.parts)));
        each = λ k x e. each-more (length now) b (reverse made) (subst (λ (j : ℕ). Is j b) at this) (λ j y f. subst (λ (m : ℕ). Is (m + j) y) count (h.each j y f)) k x (ap (λ (bs : List B). slice_get bs k) (sym turned) ∙ e);
      }

  -- an element that becomes nothing goes back behind those that are left
  pub moved-back : (all left now back : List A) (made : List B) (a : A) → HasMoved all left made → left ≡ now ++ a ∷ [] → back ≡ now ++ a ∷ [] → back ++ map part (reverse made) ≡ all
  moved-back all left now back made a h is put = ap (λ (xs : List A). xs ++ map part (reverse made)) (put ∙ sym is) ∙ h.parts

  pub moved-all : (all left : List A) (made : List B) → HasMoved all left made → left ≡ [] → (map part (reverse made) ≡ all) × ((k : ℕ) (b : B) → slice_get (reverse made) k ≡ Some b → Is k b)
  moved-all all left made h none = (
    ap (λ (xs : List A). xs ++ map part (reverse made)) (sym none) ∙ h.parts,
    λ k b e. let at : length left + k ≡ k = let l = ap length none in omega arith in subst (λ (j : ℕ). Is j b) at (h.each k b e),
  )
