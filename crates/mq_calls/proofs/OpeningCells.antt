-- What the map of a volume has at a block, by the blocks before it.
use Rattle.std.proofs.Common.{◌≡◌, ℕ, ◌-◌, ◌/◌, ◌%◌, ◌<◌, ◌≤◌, Bool, true, false, cond, List, ◌∷◌, ◌++◌, length, get_or, sym, ap, ◌∙◌, inl, inr, arith}
use Rattle.std.specs.Prelude.{Option, Some, None, nat_eq, nat_lt, ◌&&◌}
use Rattle.std.proofs.lemmas.Bool.{cases_lt, le-ltb, lt-ltb}
use Rattle.std.proofs.lemmas.List.{get_or_append_left, get_or_default}
use Rattle.std.proofs.lemmas.Option.{same_Some}
use Rattle.mq_blocks.specs.Blocks.{block_at, content}
use Rattle.mq_blocks.specs.Geometry.{homes_of, meta_of, zone_of, zone_size}
use Rattle.mq_blocks.specs.declared.geometry.Geometry.{Geometry}
use Rattle.mq_layout.specs.Bits.{bit_of}
use Rattle.mq_layout.specs.Places.{zone_bitmap}
use Rattle.mq_layout.proofs.EmptyLaws.{zeros-bit}
use Rattle.mq_sessions.proofs.OpeningCells.{here}
use Rattle.mq_tree.specs.Laid.{is_marked, map_of}
use Rattle.mq_tree.proofs.LaidMaps.{zone-low}

abbrev Stored : Type 0
Stored = List (Option (List ℕ))

-- ---- whether a block is marked

-- the zone of a block of a zone
zone-is : (g : Geometry) (b z : ℕ) → meta_of g ≤ b → Some z ≡ zone_of g b → z ≡ (b - meta_of g) / zone_size g
zone-is g b z high e = same_Some _ _ (e ∙ ap (λ (t : Bool). cond t None (Some ((b - meta_of g) / zone_size g))) (le-ltb b (meta_of g) high))

-- an absent bitmap marks no block
pub unmarked : (g : Geometry) (s : Stored) (b z k : ℕ) (x : Option (List ℕ)) → meta_of g ≤ b → b < homes_of g → meta_of g ≤ length s → Some z ≡ zone_of g b → k ≡ zone_bitmap z → x ≡ get_or s k x → x ≡ None → is_marked g s b ≡ false
unmarked g s b z k x high home within zone at is none =
    let m = (b - meta_of g) % zone_size g in
    let zone_is = zone-is g b z high zone in
    let low = zone-low g b high home in
    let meta = g.meta_low in
    let there : get_or s k None ≡ None = get_or_default s k None x (omega arith) ∙ (sym is ∙ none) in
    let bit : bit_of (block_at s k) m ≡ 0 = ap (λ (c : Option (List ℕ)). bit_of (content c) m) there ∙ zeros-bit m in
    let place : k ≡ zone_bitmap ((b - meta_of g) / zone_size g) = at ∙ ap zone_bitmap zone_is in
    ap (λ (n : ℕ). nat_eq n 1) (ap (λ (j : ℕ). bit_of (block_at s j) m) (sym place) ∙ bit)

-- ---- what the map has at a block, by the blocks before it

-- a block's bitmap stands before it
marked-before : (g : Geometry) (before rest : Stored) (b : ℕ) → meta_of g ≤ b → b < homes_of g → b ≡ length before → is_marked g (before ++ rest) b ≡ is_marked g before b
marked-before g before rest b high home at =
    let z = (b - meta_of g) / zone_size g in
    let m = (b - meta_of g) % zone_size g in
    let low = zone-low g b high home in
    let meta = g.meta_low in
    let same : get_or (before ++ rest) (zone_bitmap z) None ≡ get_or before (zone_bitmap z) None = get_or_append_left before rest None (zone_bitmap z) (omega arith) in
    ap (λ (c : Option (List ℕ)). nat_eq (bit_of (content c) m) 1) same

-- what the map has, where it is known whether the block is marked
decided : (g : Geometry) (s : Stored) (b : ℕ) (marked : Bool) → meta_of g ≤ b → b < homes_of g → is_marked g s b ≡ marked → map_of g s b ≡ cond marked (Some (block_at s b)) None
unfolding map_of
decided g s b marked high home is =
    ap (λ (c : Bool). cond c (Some (block_at s b)) (cond (nat_lt b (homes_of g) && is_marked g s b) (Some (block_at s b)) None)) (le-ltb b (meta_of g) high)
    ∙ (ap (λ (c : Bool). cond (c && is_marked g s b) (Some (block_at s b)) None) (lt-ltb b (homes_of g) home)
    ∙ ap (λ (c : Bool). cond c (Some (block_at s b)) None) is)

in-meta : (g : Geometry) (s : Stored) (b : ℕ) → b < meta_of g → map_of g s b ≡ Some (block_at s b)
unfolding map_of
in-meta g s b low = ap (λ (c : Bool). cond c (Some (block_at s b)) (cond (nat_lt b (homes_of g) && is_marked g s b) (Some (block_at s b)) None)) (lt-ltb b (meta_of g) low)

pub map-free : (g : Geometry) (before rest : Stored) (x : Option (List ℕ)) (b : ℕ) → b ≡ length before → b < homes_of g → meta_of g ≤ b → is_marked g before b ≡ false → map_of g (before ++ x ∷ rest) b ≡ None
map-free g before rest x b at home high free = decided g (before ++ x ∷ rest) b false high home (marked-before g before (x ∷ rest) b high home at ∙ free)

pub map-kept : (g : Geometry) (before rest : Stored) (x : Option (List ℕ)) (b : ℕ) → b ≡ length before → b < homes_of g → (meta_of g ≤ b → is_marked g before b ≡ true) → map_of g (before ++ x ∷ rest) b ≡ Some (content x)
map-kept g before rest x b at home marked =
    let is : Some (block_at (before ++ x ∷ rest) b) ≡ Some (content x) = ap Some (here before rest x b at) in
    elim (cases_lt b (meta_of g)) [
      | inl low ↦ in-meta g (before ++ x ∷ rest) b low ∙ is
      | inr high ↦ decided g (before ++ x ∷ rest) b true high home (marked-before g before (x ∷ rest) b high home at ∙ marked high) ∙ is
    ]
