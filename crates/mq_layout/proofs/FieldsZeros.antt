-- The numbers that have to be 0.
use Rattle.std.proofs.Common.{get_or, ◌≡◌, ◌≢◌, ℕ, zero, suc, add-zero, ◌+◌, ◌*◌, ◌<◌, ◌≤◌, List, length, drop, Bool, true, false, cond, refl, sym, ap, ◌∙◌, arith, nat_eq, inl, inr}
use Rattle.std.specs.Prelude.{Some, None}
use Rattle.std.proofs.Math.Nat.{mul-suc, mul-zero}
use Rattle.std.proofs.lemmas.Bool.{eq-eqb}
use Rattle.std.proofs.lemmas.Bool.Decides.{eqb_tells}
use Rattle.std.proofs.lemmas.List.{get_or-drop, length-replicate}
use Rattle.mq_blocks.specs.Windows.{number_at, Shows}
use Rattle.mq_blocks.proofs.Windows.{shows-all, shows-at}
use Rattle.mq_layout.specs.Fields.{nonzero, refused, zero_bytes}
use Rattle.mq_layout.specs.declared.refusal.LayoutCause.TheVariants.{Zero}

pub length-zero_bytes : (n : ℕ) → length (zero_bytes n) ≡ n
unfolding zero_bytes
length-zero_bytes n = length-replicate n 0

pub zero_bytes-at : (n k : ℕ) → get_or (zero_bytes n) k 0 ≡ 0
unfolding zero_bytes
zero_bytes-at zero k = refl
zero_bytes-at (suc n) zero = refl
zero_bytes-at (suc n) (suc k) = zero_bytes-at n k

-- a byte as a number of one byte
pub number_at-byte : (b : List ℕ) (p : ℕ) → number_at 1 p b ≡ get_or b p 0
unfolding number_at
number_at-byte b p =
    let e : get_or (drop p b) 0 0 ≡ get_or b p 0 = get_or-drop p b 0 0 ∙ ap (λ (k : ℕ). get_or b k 0) (add-zero p) in
    omega arith

next : (size from j : ℕ) → from + size * suc j ≡ from + size + size * j
next size from j = omega (arith, mul-suc size j)

-- ---- the first that is not

pub nonzero-at : (size n from : ℕ) (b : List ℕ) (k : ℕ) → k < n → ((j : ℕ) → j < k → number_at size (from + size * j) b ≡ 0) → number_at size (from + size * k) b ≢ 0
    → nonzero size n from b ≡ Some (refused Zero (from + size * k))
unfolding nonzero
nonzero-at size zero from b k l before here = absurd (omega arith)
nonzero-at size (suc n) from b zero l before here =
    let e : from + size * 0 ≡ from = omega (arith, mul-zero size) in
    let no : nat_eq (number_at size from b) 0 ≡ false = elim (eqb_tells (number_at size from b) 0) [
      | inl y ↦ absurd (here (ap (λ (p : ℕ). number_at size p b) e ∙ y.1))
      | inr ne ↦ ne.0
    ] in
    ap (λ (t : Bool). cond t (nonzero size n (from + size) b) (Some (refused Zero from))) no ∙ ap (λ (p : ℕ). Some (refused Zero p)) (sym e)
nonzero-at size (suc n) from b (suc k) l before here =
    let e : from + size * 0 ≡ from = omega (arith, mul-zero size) in
    let yes : nat_eq (number_at size from b) 0 ≡ true = eq-eqb _ _ (ap (λ (p : ℕ). number_at size p b) (sym e) ∙ before 0 (omega arith)) in
    ap (λ (t : Bool). cond t (nonzero size n (from + size) b) (Some (refused Zero from))) yes
    ∙ nonzero-at size n (from + size) b k (omega arith) (λ j s. ap (λ (p : ℕ). number_at size p b) (sym (next size from j)) ∙ before (suc j) (omega arith)) (λ z. here (ap (λ (p : ℕ). number_at size p b) (next size from k) ∙ z))
    ∙ ap (λ (p : ℕ). Some (refused Zero p)) (sym (next size from k))

pub nonzero-none : (size n from : ℕ) (b : List ℕ) → ((j : ℕ) → j < n → number_at size (from + size * j) b ≡ 0) → nonzero size n from b ≡ None
unfolding nonzero
nonzero-none size zero from b all = refl
nonzero-none size (suc n) from b all =
    let e : from + size * 0 ≡ from = omega (arith, mul-zero size) in
    let yes : nat_eq (number_at size from b) 0 ≡ true = eq-eqb _ _ (ap (λ (p : ℕ). number_at size p b) (sym e) ∙ all 0 (omega arith)) in
    ap (λ (t : Bool). cond t (nonzero size n (from + size) b) (Some (refused Zero from))) yes
    ∙ nonzero-none size n (from + size) b (λ j s. ap (λ (p : ℕ). number_at size p b) (sym (next size from j)) ∙ all (suc j) (omega arith))

-- ---- and if there is none

none-step : (size n from : ℕ) (b : List ℕ) → number_at size from b ≡ 0 → ((j : ℕ) → j < n → number_at size (from + size + size * j) b ≡ 0) → (j : ℕ) → j < suc n → number_at size (from + size * j) b ≡ 0
none-step size n from b here rest zero l = let e : from + size * 0 ≡ from = omega (arith, mul-zero size) in ap (λ (p : ℕ). number_at size p b) e ∙ here
none-step size n from b here rest (suc j) l = ap (λ (p : ℕ). number_at size p b) (next size from j) ∙ rest j (omega arith)

pub none-nonzero : (size n from : ℕ) (b : List ℕ) → nonzero size n from b ≡ None → (j : ℕ) → j < n → number_at size (from + size * j) b ≡ 0
unfolding nonzero
none-nonzero size zero from b e j l = absurd (omega arith)
none-nonzero size (suc n) from b e j l = elim (eqb_tells (number_at size from b) 0) [
  | inl y ↦
      let rest : nonzero size n (from + size) b ≡ None = ap (λ (t : Bool). cond t (nonzero size n (from + size) b) (Some (refused Zero from))) (sym y.0) ∙ e in
      none-step size n from b y.1 (none-nonzero size n (from + size) b rest) j l
  | inr ne ↦
      let bad : Some (refused Zero from) ≡ None = ap (λ (t : Bool). cond t (nonzero size n (from + size) b) (Some (refused Zero from))) (sym ne.0) ∙ e in
      absurd (cc)
]

pub shows-zeros : (b : List ℕ) (from n : ℕ) → from + n ≤ length b → nonzero 1 n from b ≡ None → Shows b from (zero_bytes n)
shows-zeros b from n h e =
    let l = length-zero_bytes n in
    shows-all b from (zero_bytes n) (omega arith) (λ k s.
    let i : from + 1 * k ≡ from + k = omega arith in
    sym (number_at-byte b (from + k)) ∙ ap (λ (p : ℕ). number_at 1 p b) (sym i) ∙ none-nonzero 1 n from b e k (omega arith) ∙ sym (zero_bytes-at n k))

pub zeros-shown : (b : List ℕ) (from n : ℕ) → Shows b from (zero_bytes n) → nonzero 1 n from b ≡ None
zeros-shown b from n s =
    let l = length-zero_bytes n in
    nonzero-none 1 n from b (λ k low.
    let i : from + 1 * k ≡ from + k = omega arith in
    ap (λ (p : ℕ). number_at 1 p b) i ∙ number_at-byte b (from + k) ∙ shows-at b from (zero_bytes n) k s (omega arith) ∙ zero_bytes-at n k)

-- ---- bytes

pub bytes-bad : (n from : ℕ) (b : List ℕ) (k : ℕ) → k < n → ((j : ℕ) → j < k → get_or b (from + j) 0 ≡ 0) → get_or b (from + k) 0 ≢ 0 → nonzero 1 n from b ≡ Some (refused Zero (from + k))
bytes-bad n from b k l before here =
    let i : from + 1 * k ≡ from + k = omega arith in
    nonzero-at 1 n from b k l (λ j s. let h : from + 1 * j ≡ from + j = omega arith in ap (λ (p : ℕ). number_at 1 p b) h ∙ number_at-byte b (from + j) ∙ before j s)
    (λ z. here (sym (number_at-byte b (from + k)) ∙ ap (λ (p : ℕ). number_at 1 p b) (sym i) ∙ z))
    ∙ ap (λ (p : ℕ). Some (refused Zero p)) i

pub bytes-end : (n from : ℕ) (b : List ℕ) → ((j : ℕ) → j < n → get_or b (from + j) 0 ≡ 0) → nonzero 1 n from b ≡ None
bytes-end n from b all =
    nonzero-none 1 n from b (λ j s. let h : from + 1 * j ≡ from + j = omega arith in ap (λ (p : ℕ). number_at 1 p b) h ∙ number_at-byte b (from + j) ∙ all j s)
