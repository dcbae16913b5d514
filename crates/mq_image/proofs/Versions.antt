-- The lengths of a file's rings, by its version.
use Rattle.std.proofs.Common.{◌≡◌, ◌≤◌, ◌<◌, ℕ, inl, inr, ◌+◌, ◌*◌, refl, arith}
use Rattle.std.specs.Prelude.{nat_eq}
use Rattle.std.proofs.Math.Nat.{mul-le-mul_left}
use Rattle.std.proofs.lemmas.Bool.{cases_Bool}
use Rattle.mq_image.specs.File.{ring_depth, ring_size, rings_end}

-- a ring has 16 bytes of words, and 64 of each slot
pub size-is : (v : ℕ) → ring_size v ≡ 16 + 64 * ring_depth v
unfolding ring_size ring_depth
size-is v = elim (cases_Bool (nat_eq v 1)) [
  | inl old ↦ rw old refl
  | inr new ↦ rw new refl
]

pub depth-high : (v : ℕ) → ring_depth v ≤ 4096
unfolding ring_depth
depth-high v = elim (cases_Bool (nat_eq v 1)) [
  | inl old ↦ rw old (omega arith)
  | inr new ↦ rw new (omega arith)
]

-- the rings stand one behind another
pub rings-are : (v n : ℕ) → rings_end v n ≡ 40 + ring_size v * n
unfolding rings_end ring_size
rings-are v n = elim (cases_Bool (nat_eq v 1)) [
  | inl old ↦ rw old refl
  | inr new ↦ rw new refl
]

pub rings-none : (v : ℕ) → rings_end v 0 ≡ 40
rings-none v = omega (arith, rings-are v 0)

pub rings-next : (v n : ℕ) → rings_end v (n + 1) ≡ rings_end v n + ring_size v
rings-next v n =
    let a = rings-are v n in
    let b = rings-are v (n + 1) in
    let m : ring_size v * (n + 1) ≡ ring_size v * n + ring_size v = omega arith in
    omega arith

pub rings-low : (v k n : ℕ) → k < n → rings_end v k + ring_size v ≤ rings_end v n
rings-low v k n l =
    let a = rings-are v (k + 1) in
    let b = rings-are v n in
    let c = rings-next v k in
    let m : ring_size v * (k + 1) ≤ ring_size v * n = mul-le-mul_left (ring_size v) (omega arith) in
    omega arith

pub rings-high : (v n : ℕ) → n ≤ 16 → rings_end v n ≤ 4194600
unfolding rings_end
rings-high v n l = elim (cases_Bool (nat_eq v 1)) [
  | inl old ↦ rw old (omega arith)
  | inr new ↦ rw new (omega arith)
]
