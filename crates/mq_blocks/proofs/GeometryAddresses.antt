-- Where places and home blocks lie, and that their addresses differ.
use Rattle.std.specs.Prelude.{◌≡◌, ◌≢◌, ◌<◌, ◌≤◌, ℕ, ◌+◌, ◌*◌, ◌/◌, ◌%◌}
use Rattle.std.proofs.Common.{suc, sym, ap, ◌∙◌, arith, inl, inr}
use Rattle.std.proofs.Math.Nat.{mod-lt, div-add-mod, mul-le-mul_left, mul-suc}
use Rattle.std.proofs.lemmas.Nat.{div-mul-add, mod-mul-add, mul-add-lt, mul-le}
use Rattle.std.proofs.lemmas.Bool.{cases_lt}
use Rattle.mq_blocks.specs.Geometry.{queues_of, area_of, home_lba, area_lba, blocks_of_drive}
use Rattle.mq_blocks.specs.declared.geometry.Geometry.{Geometry}

-- the index of a place in its area
pub in_area : (g : Geometry) (place : ℕ) → place % g.area < g.area
in_area g place = (let low = g.area_low in mod-lt place (omega arith))

pub areas_apart : (g : Geometry) (q r place other : ℕ) → area_lba g q place ≡ area_lba g r other → (q ≡ r) × (place % area_of g ≡ other % area_of g)
areas_apart g q r place other same = (
  sym (div-mul-add q g.area (place % g.area) (in_area g place)) ∙ (ap (λ n. n / g.area) same ∙ div-mul-add r g.area (other % g.area) (in_area g other)),
  sym (mod-mul-add q g.area (place % g.area) (in_area g place)) ∙ (ap (λ n. n % g.area) same ∙ mod-mul-add r g.area (other % g.area) (in_area g other)),
)

-- numbers with one remainder are equal, or apart by the divisor at least
remainders : (a m n : ℕ) → m < n → n < m + a → m % a ≢ n % a
remainders a m n less near same =
    let here : a * (m / a) + m % a ≡ m = div-add-mod m a in
    let there : a * (n / a) + n % a ≡ n = div-add-mod n a in
    elim (cases_lt (m / a) (n / a)) [
      | inl above ↦
          let high : a * suc (m / a) ≤ a * (n / a) = mul-le-mul_left a above in
          let step : a * suc (m / a) ≡ a * (m / a) + a = mul-suc a (m / a) in
          omega (arith, here, there, high, step, same)
      | inr below ↦
          let low : a * (n / a) ≤ a * (m / a) = mul-le-mul_left a below in
          omega (arith, here, there, low, same)
    ]

pub places_apart : (g : Geometry) (q place other : ℕ) → place < other → other < place + area_of g → area_lba g q place ≢ area_lba g q other
places_apart g q place other less near same = remainders g.area place other less near (areas_apart g q q place other same).1

pub kinds_apart : (g : Geometry) (q place b : ℕ) → q < queues_of g → area_lba g q place < home_lba g b
kinds_apart g q place b own =
    let row : q * g.area + place % g.area < g.area * g.queues = mul-add-lt q g.area (place % g.area) g.queues own (in_area g place) in
    omega arith

pub in_size : (g : Geometry) → blocks_of_drive g ≤ 294912
in_size g =
    let queues = g.queues_high in
    let area = g.area_high in
    let homes = g.homes_high in
    let product : g.queues * g.area ≤ 16 * 16384 = mul-le g.queues g.area 16 16384 queues area in
    omega arith
