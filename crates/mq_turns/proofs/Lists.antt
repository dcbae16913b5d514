-- What holds of each in a list, and lists with numbers.
use Rattle.std.proofs.Common.{◌≡◌, ◌≢◌, ℕ, ◌+◌, ◌<◌, ◌≤◌, ◌==◌, cond, Bool, true, false, List, [], ◌∷◌, ◌++◌, sym, refl, ap, ◌∙◌, subst, eq-eqb, ne_eqb, arith}
use mathlib.Core.Logic.{dite}
use native.Mathlib.Decide.{ℕ_discrete}
use Rattle.mq_turns.specs.Lists.{Each, tick, times, without}

module _ {A : Type 0} where
  pub each_append : (P : A → Type 0) (l m : List A) → Each P l → Each P m → Each P (l ++ m)
  each_append P [] m a b = b
  each_append P (x ∷ xs) m a b = (a.0, each_append P xs m a.1 b)

  pub each_map : (P Q : A → Type 0) → ((a : A) → P a → Q a) → (l : List A) → Each P l → Each Q l
  each_map P Q f [] h = tt
  each_map P Q f (x ∷ xs) h = (f x h.0, each_map P Q f xs h.1)

module _ {A : Type 0} where
  pub each_both : (P Q S : A → Type 0) → ((a : A) → P a → Q a → S a) → (l : List A) → Each P l → Each Q l → Each S l
  each_both P Q S f [] h k = tt
  each_both P Q S f (x ∷ xs) h k = (f x h.0 k.0, each_both P Q S f xs h.1 k.1)

pub hit : (a k : ℕ) → a ≡ k → tick a k ≡ 1
hit a k e = let f : Bool → ℕ = λ b. cond b 1 0 in ap f (eq-eqb a k e)

pub miss : (a k : ℕ) → a ≢ k → tick a k ≡ 0
miss a k e = let f : Bool → ℕ = λ b. cond b 1 0 in ap f (ne_eqb a k e)

module _ {A : Type 0} where
  times_without_cons : (k j : ℕ) (x : ℕ × A) (xs ys : List (ℕ × A)) → j ≢ k → times j ys ≡ times j xs → times j (cond (x.0 == k) ys (x ∷ ys)) ≡ tick x.0 j + times j xs
  times_without_cons k j x xs ys ne ih = dite (ℕ_discrete x.0 k)
      (λ e. let m : tick x.0 j ≡ 0 = miss x.0 j (λ q. ne (sym q ∙ e)) in
      subst (λ (b : Bool). times j (cond b ys (x ∷ ys)) ≡ tick x.0 j + times j xs) (sym (eq-eqb x.0 k e)) (omega arith))
      (λ e. subst (λ (b : Bool). times j (cond b ys (x ∷ ys)) ≡ tick x.0 j + times j xs) (sym (ne_eqb x.0 k e)) (omega arith))

  pub times_without_other : (k j : ℕ) (l : List (ℕ × A)) → j ≢ k → times j (without k l) ≡ times j l
  times_without_other k j [] ne = refl
  times_without_other k j (x ∷ xs) ne = times_without_cons k j x xs (without k xs) ne (times_without_other k j xs ne)

  times_without_same_cons : (k : ℕ) (x : ℕ × A) (ys : List (ℕ × A)) → times k ys ≡ 0 → times k (cond (x.0 == k) ys (x ∷ ys)) ≡ 0
  times_without_same_cons k x ys ih = dite (ℕ_discrete x.0 k)
      (λ e. subst (λ (b : Bool). times k (cond b ys (x ∷ ys)) ≡ 0) (sym (eq-eqb x.0 k e)) ih)
      (λ e. let m = miss x.0 k e in subst (λ (b : Bool). times k (cond b ys (x ∷ ys)) ≡ 0) (sym (ne_eqb x.0 k e)) (omega arith))

  pub times_without : (k : ℕ) (l : List (ℕ × A)) → times k (without k l) ≡ 0
  times_without k [] = refl
  times_without k (x ∷ xs) = times_without_same_cons k x (without k xs) (times_without k xs)

  pub times_append : (k : ℕ) (l m : List (ℕ × A)) → times k (l ++ m) ≡ times k l + times k m
  times_append k [] m = omega arith
  times_append k (x ∷ xs) m = let ih = times_append k xs m in omega arith

  pub each_without : (P : ℕ × A → Type 0) (k : ℕ) (l : List (ℕ × A)) → Each P l → Each P (without k l)
  each_without P k [] h = tt
  each_without P k (x ∷ xs) h = elim (x.0 == k) as (λ b. Each P (cond b (without k xs) (x ∷ without k xs))) [ true ↦ each_without P k xs h.1 | false ↦ (h.0, each_without P k xs h.1) ]

  -- a number above all that stand in the list
  pub times_none : (n m : ℕ) (l : List (ℕ × A)) → Each (λ d. d.0 ≤ m) l → m < n → times n l ≡ 0
  times_none n m [] h lt = refl
  times_none n m (x ∷ xs) h lt = let o = miss x.0 n (λ e. let b = h.0 in omega arith) in let ih = times_none n m xs h.1 lt in omega arith
