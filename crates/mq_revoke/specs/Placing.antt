-- Where a transaction writes its blocks, and which copies it revokes.
use Rattle.std.specs.Prelude.{◌≡◌, ◌<◌, ◌≤◌, ℕ, true, List, map, Some}
use Rattle.std.specs.List.{Contains}
use Rattle.mq_blocks.specs.Descriptor.{AreRising}
use Rattle.mq_blocks.specs.Geometry.{homes_of, zone_of}
use Rattle.mq_blocks.specs.Journal.{is_among}
use Rattle.mq_blocks.specs.declared.geometry.Geometry.{Geometry}
use Rattle.mq_revoke.specs.Placed.{Placed}
use Rattle.mq_revoke.specs.declared.placement.Planned.{Planned}

-- A block that goes to its home directly: data in the zone of the queue that was free before, and that
-- no transaction above the front has changed.
pub record IsDirect (g : Geometry) (queue front : ℕ) (w : Planned) : Type 0 where
  pub is_data : w.is_data ≡ true
  pub zone : zone_of g w.block ≡ Some queue
  pub was_free : w.was_free ≡ true
  pub settled : w.version ≤ front

-- one whose last copy in the journal may still be there: it is above the base
abbrev pub IsCopied : ℕ → Planned → Type 0
IsCopied base w = base < w.last_logged

-- The blocks, in rising order, are those of the writes that have it, and no others.
pub record AreThose (homes : ℕ) (has : Planned → Type 0) (writes : List Planned)
    (blocks : List ℕ) : Type 0 where
  pub only : (x : ℕ) → is_among x blocks ≡ true → (w : Planned) × Contains writes w × (w.block ≡ x) × has w
  pub all : (w : Planned) → Contains writes w → has w → is_among w.block blocks ≡ true
  pub rising : AreRising 0 homes blocks

-- Direct blocks go home, and all others are logged; direct blocks with a copy are revoked, and no others.
pub record IsPlacement (g : Geometry) (queue front base : ℕ) (writes : List Planned)
    (p : Placed) : Type 0 where
  pub direct : AreThose (homes_of g) (IsDirect g queue front) writes p.direct
  pub logged : AreThose (homes_of g) (λ w. IsDirect g queue front w → ⊥) writes p.logged
  pub revoked : AreThose (homes_of g) (λ w. IsDirect g queue front w × IsCopied base w) writes p.revoked

-- home blocks, each above the one before it
abbrev pub AreInOrder : Geometry → List Planned → Type 0
AreInOrder g writes = AreRising 0 (homes_of g) (map (λ w. w.block) writes)
