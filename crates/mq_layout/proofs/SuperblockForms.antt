-- A block is the superblock of a geometry exactly where no field is refused.
use Rattle.std.proofs.Common.{get_or, ◌≡◌, ℕ, ◌+◌, ◌*◌, ◌^◌, ◌<◌, ◌≤◌, List, [], ◌++◌, length, drop, refl, sym, ap, ◌∙◌, arith, lit<, length-append}
use Rattle.std.specs.Prelude.{None}
use Rattle.std.proofs.Math.Nat.{mul-le-mul_right}
use Rattle.std.proofs.lemmas.Bool.{eqb-true, eq-eqb}
use Rattle.std.proofs.lemmas.List.{take_all, drop-replicate}
use Rattle.std.specs.Int.{to_le_bytes, w32}
use Rattle.byteorder.specs.Endian.{little_number}
use Rattle.mq_blocks.specs.Blocks.{zeros}
use Rattle.mq_blocks.specs.Descriptor.{list_bytes}
use Rattle.mq_blocks.specs.Geometry.{queues_of, area_of, meta_of, zone_size}
use Rattle.mq_blocks.specs.Windows.{written, Shows}
use Rattle.mq_blocks.specs.declared.geometry.Geometry.{Geometry}
use Rattle.mq_blocks.proofs.Windows.{number-shown, shows-join, shows-left, shows-right}
use Rattle.mq_layout.specs.Fields.{zero_bytes}
use Rattle.mq_layout.specs.Places.{inodes_of}
use Rattle.mq_layout.specs.Superblock.{magic, super_numbers, super_header, super_bytes, wrong_super}
use Rattle.mq_layout.proofs.Fields.{field-first, none-first, number-shows-4, number-shows-8, pass, pass-field, pass-none}
use Rattle.mq_layout.proofs.FieldsZeros.{length-zero_bytes, shows-zeros, zeros-shown}

pub length-super_header : (g : Geometry) → length (super_header g) ≡ 32
unfolding super_header
length-super_header g = refl

pub length-super_bytes : (g : Geometry) → length (super_bytes g) ≡ 4096
unfolding super_bytes
length-super_bytes g = omega (arith, length-append (super_header g) (zero_bytes 4064), length-super_header g, length-zero_bytes 4064)

zeros-behind : drop 32 zeros ≡ zero_bytes 4064
unfolding zeros zero_bytes
zeros-behind = drop-replicate 32 4096 0

-- the header over a block of zeros
pub super-written : (g : Geometry) (b : List ℕ) → b ≡ written zeros 0 (super_header g) → b ≡ super_bytes g
unfolding written super_bytes
super-written g b e =
    let n = length-super_header g in
    let m : 0 + length (super_header g) ≡ 32 = omega arith in
    e ∙ ap (λ (k : ℕ). super_header g ++ drop k zeros) m ∙ ap (λ (w : List ℕ). super_header g ++ w) zeros-behind

-- the numbers of a geometry have room in four bytes
record AreSmall (g : Geometry) : Type 0 where
  queues : queues_of g < 256 ^ 4
  area : area_of g < 256 ^ 4
  meta : meta_of g < 256 ^ 4
  zone : zone_size g < 256 ^ 4
  inodes : inodes_of g < 256 ^ 4

are_small : (g : Geometry) → AreSmall g
are_small g =
    let z : 1 * g.zone ≤ g.queues * g.zone = mul-le-mul_right g.zone g.queues_low in
    record {
      queues = let h = g.queues_high in omega arith;
      area = let h = g.area_high in omega arith;
      meta = let h = g.homes_high in omega arith;
      zone = let h = g.homes_high in omega arith;
      inodes = omega arith;
    }

pub super-sound : (g : Geometry) (b : List ℕ) → length b ≡ 4096 → ((k : ℕ) → get_or b k 0 < 256) → wrong_super g b ≡ None → b ≡ super_bytes g
unfolding wrong_super super_bytes super_header
super-sound g b whole small none =
    let r₀ : 0 + 8 ≤ length b = omega arith in
    let r₁ : 8 + 4 ≤ length b = omega arith in
    let r₂ : 12 + 4 ≤ length b = omega arith in
    let r₃ : 16 + 4 ≤ length b = omega arith in
    let r₄ : 20 + 4 ≤ length b = omega arith in
    let r₅ : 24 + 4 ≤ length b = omega arith in
    let r₆ : 28 + 4 ≤ length b = omega arith in
    let a = field-first _ _ _ _ none in
    let v = field-first _ _ _ _ a.1 in
    let q = field-first _ _ _ _ v.1 in
    let r = field-first _ _ _ _ q.1 in
    let m = field-first _ _ _ _ r.1 in
    let z = field-first _ _ _ _ m.1 in
    let i = field-first _ _ _ _ z.1 in
    let o = none-first _ _ i.1 in
    let s₀ : Shows b 0 magic = number-shows-8 b 0 _ r₀ small (eqb-true _ _ a.0) in
    let s₁ = number-shows-4 b 8 _ r₁ small (eqb-true _ _ v.0) in
    let s₂ = number-shows-4 b 12 _ r₂ small (eqb-true _ _ q.0) in
    let s₃ = number-shows-4 b 16 _ r₃ small (eqb-true _ _ r.0) in
    let s₄ = number-shows-4 b 20 _ r₄ small (eqb-true _ _ m.0) in
    let s₅ = number-shows-4 b 24 _ r₅ small (eqb-true _ _ z.0) in
    let s₆ = number-shows-4 b 28 _ r₆ small (eqb-true _ _ i.0) in
    let t₆ = shows-join b 28 _ 32 [] s₆ refl refl in
    let t₅ = shows-join b 24 _ 28 _ s₅ refl t₆ in
    let t₄ = shows-join b 20 _ 24 _ s₄ refl t₅ in
    let t₃ = shows-join b 16 _ 20 _ s₃ refl t₄ in
    let t₂ = shows-join b 12 _ 16 _ s₂ refl t₃ in
    let t₁ = shows-join b 8 _ 12 _ s₁ refl t₂ in
    let t₀ = shows-join b 0 magic 8 _ s₀ refl t₁ in
    let rest = shows-zeros b 32 4064 (omega arith) o.0 in
    let all : Shows b 0 (super_bytes g) = shows-join b 0 _ 32 (zero_bytes 4064) t₀ refl rest in
    let n = length-super_bytes g in
    sym (take_all (length (super_bytes g)) b (omega arith)) ∙ all

whole-shown : (g : Geometry) (b : List ℕ) → b ≡ super_bytes g → Shows b 0 (super_bytes g)
whole-shown g b e = take_all (length (super_bytes g)) b (let n = length-super_bytes g in let m : length b ≡ length (super_bytes g) = ap length e in omega arith) ∙ e

pub super-right : (g : Geometry) (b : List ℕ) → b ≡ super_bytes g → wrong_super g b ≡ None
unfolding wrong_super super_bytes super_header
super-right g b e =
    let low = are_small g in
    let t₀ : Shows b 0 (super_bytes g) = whole-shown g b e in
    let rest = shows-right b 0 (super_header g) 32 (zero_bytes 4064) t₀ refl in
    let h = shows-left b 0 (super_header g) (zero_bytes 4064) t₀ in
    let s₀ = shows-left b 0 magic (list_bytes (super_numbers g)) h in
    let t₁ = shows-right b 0 magic 8 (list_bytes (super_numbers g)) h refl in
    let s₁ = shows-left b 8 (to_le_bytes w32 1) _ t₁ in
    let t₂ = shows-right b 8 (to_le_bytes w32 1) 12 _ t₁ refl in
    let s₂ = shows-left b 12 (to_le_bytes w32 (queues_of g)) _ t₂ in
    let t₃ = shows-right b 12 (to_le_bytes w32 (queues_of g)) 16 _ t₂ refl in
    let s₃ = shows-left b 16 (to_le_bytes w32 (area_of g)) _ t₃ in
    let t₄ = shows-right b 16 (to_le_bytes w32 (area_of g)) 20 _ t₃ refl in
    let s₄ = shows-left b 20 (to_le_bytes w32 (meta_of g)) _ t₄ in
    let t₅ = shows-right b 20 (to_le_bytes w32 (meta_of g)) 24 _ t₄ refl in
    let s₅ = shows-left b 24 (to_le_bytes w32 (zone_size g)) _ t₅ in
    let t₆ = shows-right b 24 (to_le_bytes w32 (zone_size g)) 28 _ t₅ refl in
    let s₆ = shows-left b 28 (to_le_bytes w32 (inodes_of g)) [] t₆ in
    pass-field _ _ _ _ (eq-eqb _ _ (number-shown b 0 8 (little_number 8 magic) (lit< tt) s₀))
    (pass-field _ _ _ _ (eq-eqb _ _ (number-shown b 8 4 1 (lit< tt) s₁))
    (pass-field _ _ _ _ (eq-eqb _ _ (number-shown b 12 4 _ low.queues s₂))
    (pass-field _ _ _ _ (eq-eqb _ _ (number-shown b 16 4 _ low.area s₃))
    (pass-field _ _ _ _ (eq-eqb _ _ (number-shown b 20 4 _ low.meta s₄))
    (pass-field _ _ _ _ (eq-eqb _ _ (number-shown b 24 4 _ low.zone s₅))
    (pass-field _ _ _ _ (eq-eqb _ _ (number-shown b 28 4 _ low.inodes s₆))
    (pass _ _ (zeros-shown b 32 4064 rest) pass-none)))))))
