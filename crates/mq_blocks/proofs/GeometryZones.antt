-- Which home blocks lie in the zone of a queue, and which in the metadata region.
use Rattle.std.specs.Prelude.{◌≡◌, ◌<◌, ◌≤◌, ℕ, ◌+◌, ◌-◌, ◌*◌, ◌/◌, ◌%◌, Some, None}
use Rattle.std.proofs.Common.{inl, inr, arith}
use Rattle.std.proofs.lemmas.Bool.{cases_lt, lt-ltb, le-ltb}
use Rattle.std.proofs.lemmas.Nat.{mod_below, div-add-mod'}
use Rattle.mq_blocks.specs.Geometry.{zone_of}
use Rattle.mq_blocks.specs.declared.geometry.Geometry.{Geometry}

-- a home block of a queue's zone
pub zone-row : (g : Geometry) (q x : ℕ) → zone_of g x ≡ Some q → (g.meta + q * g.zone ≤ x) × (x < g.meta + q * g.zone + g.zone)
zone-row g q x e = elim (cases_lt x g.meta) [
  | inl low ↦ absurd (let k = rw (lt-ltb _ _ low) at e in none k)
  | inr high ↦
      let k = rw (le-ltb _ _ high) at e in
      let row : (x - g.meta) / g.zone ≡ q = inj k in
      let whole = div-add-mod' (x - g.meta) g.zone in
      let rest : (x - g.meta) % g.zone < g.zone = mod_below (x - g.meta) g.zone (let z = g.zone_low in omega arith) in
      let whole' : q * g.zone + (x - g.meta) % g.zone ≡ x - g.meta = rw row at whole in
      (omega arith, omega arith)
]
  where
    none : {n : ℕ} → None ≡ Some n → ⊥
    none k = cc

    inj : {m n : ℕ} → Some m ≡ Some n → m ≡ n
    inj k = cc

-- one that is in no zone is in the metadata region
pub zone-none : (g : Geometry) (x : ℕ) → zone_of g x ≡ None → x < g.meta
zone-none g x is = elim (cases_lt x g.meta) [
  | inl low ↦ low
  | inr high ↦ absurd (none ((x - g.meta) / g.zone) (rw (le-ltb x g.meta high) at is))
]
  where
    none : (n : ℕ) → Some n ≡ None → ⊥
    none n e = cc
