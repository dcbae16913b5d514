-- What the map of stored blocks has at a block.
use Rattle.std.proofs.Common.{◌≡◌, ℕ, ◌-◌, ◌/◌, ◌%◌, ◌<◌, ◌≤◌, List, Bool, true, false, cond, sym, ap, ◌∙◌, arith, inl, inr, div-add-mod', mod-lt, refl}
use Rattle.std.specs.Prelude.{Option, Some, None, nat_lt, ◌&&◌, nat_eq, if◌then◌else◌}
use Rattle.std.proofs.lemmas.Bool.{and_from, and_parts, cases_lt, false_from_ne_true, le-ltb, lt-ltb, ltb-true}
use Rattle.std.proofs.lemmas.Option.{cond_some}
use Rattle.std.proofs.Math.Nat.{div-lt_iff_lt-mul}
use Rattle.mq_blocks.specs.Blocks.{block_at}
use Rattle.mq_blocks.specs.Geometry.{homes_of, meta_of, queues_of, zone_size}
use Rattle.mq_blocks.specs.declared.geometry.Geometry.{Geometry}
use Rattle.mq_blocks.specs.Machine.{Map}
use Rattle.mq_layout.specs.Bits.{bit_of}
use Rattle.mq_layout.specs.Places.{zone_bitmap}
use Rattle.mq_tree.specs.Laid.{is_marked, map_of, zone_block, IsLaid}
use Rattle.mq_tree.specs.Volume.{Volume}

-- what the map has at a block
pub record Mapped (g : Geometry) (stored : List (Option (List ℕ))) (b : ℕ) (page : List ℕ) : Type 0 where
  pub is : page ≡ block_at stored b
  pub home : b < homes_of g
  pub marked : meta_of g ≤ b → is_marked g stored b ≡ true

pub mapped : (g : Geometry) (stored : List (Option (List ℕ))) (b : ℕ) (page : List ℕ) → map_of g stored b ≡ Some page → Mapped g stored b page
unfolding map_of
mapped g stored b page e = elim (cases_lt b (meta_of g)) [
  | inl low ↦
      let y = lt-ltb b (meta_of g) low in
      let f : Some (block_at stored b) ≡ Some page = ap (λ (c : Bool). cond c (Some (block_at stored b)) (cond (nat_lt b (homes_of g) && is_marked g stored b) (Some (block_at stored b)) None)) (sym y) ∙ e in
      record { is = (cc); home = omega arith; marked = λ h. absurd (omega arith) }
  | inr high ↦
      let n = le-ltb b (meta_of g) high in
      let f : cond (nat_lt b (homes_of g) && is_marked g stored b) (Some (block_at stored b)) None ≡ Some page = ap (λ (c : Bool). cond c (Some (block_at stored b)) (cond (nat_lt b (homes_of g) && is_marked g stored b) (Some (block_at stored b)) None)) (sym n) ∙ e in
      let both = cond_some (nat_lt b (homes_of g) && is_marked g stored b) (block_at stored b) page f in
      let parts = and_parts _ _ both.0 in
      record { is = sym both.1; home = ltb-true _ _ parts.0; marked = λ h. parts.1 }
]

pub unmapped : (g : Geometry) (stored : List (Option (List ℕ))) (b : ℕ) → map_of g stored b ≡ None → (meta_of g ≤ b) × (b < homes_of g → is_marked g stored b ≡ false)
unfolding map_of
unmapped g stored b e = elim (cases_lt b (meta_of g)) [
  | inl low ↦
      let y = lt-ltb b (meta_of g) low in
      let f : Some (block_at stored b) ≡ None = ap (λ (c : Bool). cond c (Some (block_at stored b)) (cond (nat_lt b (homes_of g) && is_marked g stored b) (Some (block_at stored b)) None)) (sym y) ∙ e in
      absurd (cc)
  | inr high ↦
      let n = le-ltb b (meta_of g) high in
      let f : cond (nat_lt b (homes_of g) && is_marked g stored b) (Some (block_at stored b)) None ≡ None = ap (λ (c : Bool). cond c (Some (block_at stored b)) (cond (nat_lt b (homes_of g) && is_marked g stored b) (Some (block_at stored b)) None)) (sym n) ∙ e in
      (high, λ home. false_from_ne_true _ (λ t. let u = and_from _ _ (lt-ltb b (homes_of g) home) t in let h : Some (block_at stored b) ≡ None = ap (λ (c : Bool). cond c (Some (block_at stored b)) None) (sym u) ∙ f in absurd (cc)))
]

-- the zone of a block is one of the drive's
pub zone-low : (g : Geometry) (b : ℕ) → meta_of g ≤ b → b < homes_of g → (b - meta_of g) / zone_size g < queues_of g
zone-low g b high home = let z = g.zone_low in (div-lt_iff_lt-mul {k = zone_size g} {x = b - meta_of g} {y = queues_of g} (omega arith)).1 (omega arith)

-- it is a block of that zone
pub zone-place : (g : Geometry) (b : ℕ) → meta_of g ≤ b → zone_block g ((b - meta_of g) / zone_size g) ((b - meta_of g) % zone_size g) ≡ b
zone-place g b high = let e = div-add-mod' (b - meta_of g) (zone_size g) in omega (arith, e)

pub zone-rest : (g : Geometry) (b : ℕ) → (b - meta_of g) % zone_size g < zone_size g
zone-rest g b = let z = g.zone_low in mod-lt (b - meta_of g) (omega arith)

-- ---- the same blocks have the same map

-- these blocks are the same as those
abbrev pub AreSame : Geometry → List (Option (List ℕ)) → List (Option (List ℕ)) → Type 0
AreSame g s t = (b : ℕ) → b < homes_of g → block_at s b ≡ block_at t b

marked-same : (g : Geometry) (s t : List (Option (List ℕ))) (b : ℕ) → AreSame g s t → meta_of g ≤ b → b < homes_of g → is_marked g s b ≡ is_marked g t b
marked-same g s t b same high inside =
    let low = zone-low g b high inside in
    let meta = g.meta_low in
    ap (λ (page : List ℕ). nat_eq (bit_of page ((b - meta_of g) % zone_size g)) 1) (same (zone_bitmap ((b - meta_of g) / zone_size g)) (omega (arith, low, meta)))

abbrev where_marked : Bool → List ℕ → Option (List ℕ)
where_marked m page = if m then Some page else None

pub same-map : (g : Geometry) (s t : List (Option (List ℕ))) → AreSame g s t → (b : ℕ) → map_of g s b ≡ map_of g t b
unfolding map_of
same-map g s t same b = elim (cases_lt b (meta_of g)) [
  | inl low ↦ rw (lt-ltb b (meta_of g) low) (ap (λ (page : List ℕ). Some page) (same b (omega arith)))
  | inr high ↦ elim (cases_lt b (homes_of g)) [
    | inl inside ↦ rw (le-ltb b (meta_of g) high, lt-ltb b (homes_of g) inside)
        (ap (λ (m : Bool). where_marked m (block_at s b)) (marked-same g s t b same high inside) ∙ ap (where_marked (is_marked g t b)) (same b inside))
    | inr outside ↦ rw (le-ltb b (meta_of g) high, le-ltb b (homes_of g) outside) refl
  ]
]

pub laid-along : (g : Geometry) (m n : Map) (v : Volume) → ((b : ℕ) → m b ≡ n b) → IsLaid g m v → IsLaid g n v
laid-along g m n v same laid = record {
  sound = laid.sound;
  shown = λ b page is. laid.shown b page (same b ∙ is);
  vacant = λ b none. laid.vacant b (same b ∙ none);
}
