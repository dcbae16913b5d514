-- How many blocks a descriptor has, and how many it lists.
use Rattle.std.proofs.Common.{◌≡◌, ℕ, ◌+◌, ◌-◌, ◌<◌, ◌≤◌, inl, inr, refl, arith}
use Rattle.std.proofs.lemmas.Bool.{cases_lt, cases_eq, lt-ltb, le-ltb, eq-eqb, ne_eqb}
use Rattle.mq_blocks.specs.Descriptor.{further_for, journal_form, most_listed}
use Rattle.mq_blocks.specs.Geometry.{write_limit}
use Rattle.mq_blocks.specs.Limits.{list_limit}
use Rattle.mq_blocks.specs.declared.geometry.Geometry.{Geometry}

pub further-none : (n : ℕ) → n ≤ 1010 → further_for n ≡ 0
unfolding further_for
further-none n l = rw (le-ltb 1010 n l) refl

pub further-one : (n : ℕ) → 1010 < n → further_for n ≡ 1
unfolding further_for
further-one n l = rw (lt-ltb 1010 n l) refl

pub further-most : (n : ℕ) → further_for n ≤ 1
further-most n = elim (cases_lt 1010 n) [ inl l ↦ omega (arith, further-one n l) | inr l ↦ omega (arith, further-none n l) ]

-- where there is one, they don't fit into the last block
pub further-some : (n : ℕ) → further_for n ≡ 1 → 1010 < n
further-some n e = elim (cases_lt 1010 n) [ inl l ↦ l | inr l ↦ absurd (omega (arith, further-none n l)) ]

pub limit-high : (g : Geometry) → write_limit g ≤ list_limit
unfolding write_limit
limit-high g = elim (cases_lt g.area (list_limit + 24)) [ inl l ↦ rw (lt-ltb g.area (list_limit + 24) l) (omega arith) | inr l ↦ rw (le-ltb g.area (list_limit + 24) l) (omega arith) ]

pub limit-low : (g : Geometry) → 1000 ≤ write_limit g
unfolding write_limit
limit-low g =
    let low = g.area_low in
    elim (cases_lt g.area (list_limit + 24)) [ inl l ↦ rw (lt-ltb g.area (list_limit + 24) l) (omega arith) | inr l ↦ rw (le-ltb g.area (list_limit + 24) l) (omega arith) ]

-- an empty area has room for the most blocks, and for those of their descriptor
pub limit-fits : (g : Geometry) → write_limit g + 24 ≤ g.area
unfolding write_limit
limit-fits g =
    let low = g.area_low in
    elim (cases_lt g.area (list_limit + 24)) [ inl l ↦ rw (lt-ltb g.area (list_limit + 24) l) (omega arith) | inr l ↦ rw (le-ltb g.area (list_limit + 24) l) (omega arith) ]

pub listed-high : (limit version : ℕ) → limit ≤ list_limit → most_listed limit version ≤ list_limit
listed-high limit version l = elim (cases_eq version 1) [ inl e ↦ rw (eq-eqb version 1 e) (omega arith) | inr n ↦ rw (ne_eqb version 1 n) l ]

-- one of the version that is written lists as many as a transaction may write
pub listed-all : (g : Geometry) → write_limit g ≤ journal_form.most (write_limit g) journal_form.version
listed-all g = let high = limit-high g in omega arith
