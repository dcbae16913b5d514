-- The settled ones of the first numbers, one after another.
use Rattle.std.proofs.Common.{◌≡◌, ℕ, zero, suc, ◌+◌, Bool, true, false, cond, List, [], ◌∷◌, ◌++◌, refl, sym, ◌∙◌, ap, arith, append_assoc}
use Rattle.std.proofs.lemmas.List.{append-nil}
use Rattle.mq_loose_text.specs.Meaning.{numbers_from}

-- the number, where it is in the set
abbrev one_in : (ℕ → Bool) → ℕ → List ℕ
one_in S n = cond (S n) (n ∷ []) []

front : (t : Bool) (n : ℕ) (ns : List ℕ) → cond t (n ∷ ns) ns ≡ cond t (n ∷ []) [] ++ ns
front true n ns = refl
front false n ns = refl

numbers_next : (S : ℕ → Bool) (a c : ℕ) → numbers_from S a (suc c) ≡ numbers_from S a c ++ one_in S (a + c)
numbers_next S a zero = (let e : a ≡ a + 0 = omega arith in ap (one_in S) e)
numbers_next S a (suc c) =
    let e : a + 1 + c ≡ a + suc c = omega arith in
    front (S a) a (numbers_from S (a + 1) (suc c))
    ∙ ap (λ (ns : List ℕ). one_in S a ++ ns) (numbers_next S (a + 1) c ∙ ap (λ (n : ℕ). numbers_from S (a + 1) c ++ one_in S n) e)
    ∙ sym (append_assoc (one_in S a) (numbers_from S (a + 1) c) (one_in S (a + suc c)))
    ∙ ap (λ (ns : List ℕ). ns ++ one_in S (a + suc c)) (sym (front (S a) a (numbers_from S (a + 1) c)))

after : (S : ℕ → Bool) (b : ℕ) → numbers_from S 1 (b + 1) ≡ numbers_from S 1 b ++ one_in S (b + 1)
after S b =
    (let e : b + 1 ≡ suc b = omega arith in ap (numbers_from S 1) e)
    ∙ numbers_next S 1 b ∙ (let e : 1 + b ≡ b + 1 = omega arith in ap (λ (n : ℕ). numbers_from S 1 b ++ one_in S n) e)

pub number_in : (S : ℕ → Bool) (b : ℕ) (so_far now : List ℕ) → so_far ≡ numbers_from S 1 b → S (b + 1) ≡ true → now ≡ so_far ++ (b + 1) ∷ [] → now ≡ numbers_from S 1 (b + 1)
number_in S b so_far now are member is =
    is ∙ ap (λ (ns : List ℕ). ns ++ (b + 1) ∷ []) are ∙ sym (after S b ∙ ap (λ (t : Bool). numbers_from S 1 b ++ cond t ((b + 1) ∷ []) []) member)

pub number_out : (S : ℕ → Bool) (b : ℕ) (so_far now : List ℕ) → so_far ≡ numbers_from S 1 b → S (b + 1) ≡ false → now ≡ so_far → now ≡ numbers_from S 1 (b + 1)
number_out S b so_far now are out is =
    is ∙ are ∙ sym (after S b ∙ ap (λ (t : Bool). numbers_from S 1 b ++ cond t ((b + 1) ∷ []) []) out ∙ append-nil (numbers_from S 1 b))
