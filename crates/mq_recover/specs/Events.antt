-- The events of a recovery, and what they make of the ports of a drive.
use Rattle.std.specs.Prelude.{◌≡◌, ◌<◌, ℕ, ◌+◌, List, [], ◌∷◌, ◌++◌, length, take, slice_get, Option, Some, None, map, nat_eq, if◌then◌else◌}
use Rattle.mq_blocks.specs.Descriptor.{Descriptor, AreRising}
use Rattle.mq_blocks.specs.Drive.{PortState, after_begin, after_end, after_flush, after_store_base, after_store_head}
use Rattle.mq_blocks.specs.Geometry.{homes_of, home_lba, zone_of, area_of}
use Rattle.mq_blocks.specs.Machine.{Writes}
use Rattle.mq_blocks.specs.declared.geometry.Geometry.{Geometry}
use Rattle.mq_recover.specs.Copies.{copy_of, content_of}
use Rattle.mq_recover.specs.Drives.{DriveState, at_queue, at_root, view_over}
use Rattle.mq_recover.specs.RecoverHomes.{written}
use Rattle.mq_recover.specs.declared.refusal.RecoverRefusal.{RecoverRefusal}
use Rattle.mq_recover.specs.declared.refusal.RecoverRefusal.TheVariants.{Image, Off, Failed}

pub data Event : Type 0 where
  BeginHome : (block : ℕ) (content : List ℕ) → Event
  EndHome : (block : ℕ) (content : List ℕ) → Event
  StoreBase : (base : ℕ) → Event
  FlushBase : Event
  StoreHead : (queue head : ℕ) → Event
  FlushHead : (queue : ℕ) → Event

-- an event of a home block goes to the port that has the block
abbrev pub at_home : Option ℕ → (PortState → PortState) → DriveState → DriveState
at_home None f d = at_root f d
at_home (Some q) f d = at_queue q f d

abbrev pub after_event : Geometry → DriveState → Event → DriveState
after_event g d (BeginHome b content) = at_home (zone_of g b) (λ s. after_begin s (home_lba g b) content) d
after_event g d (EndHome b content) = at_home (zone_of g b) (λ s. after_end s (home_lba g b) content) d
after_event g d (StoreBase base) = at_root (λ s. after_store_base s base) d
after_event g d FlushBase = at_root after_flush d
after_event g d (StoreHead q head) = at_queue q (λ s. after_store_head s head) d
after_event g d (FlushHead q) = at_queue q after_flush d

abbrev pub after_events : Geometry → DriveState → List Event → DriveState
after_events g d [] = d
after_events g d (x ∷ xs) = after_events g (after_event g d x) xs

abbrev pub home_events : Writes → List Event
home_events [] = []
home_events (w ∷ ws) = BeginHome w.0 w.1 ∷ EndHome w.0 w.1 ∷ home_events ws

-- a base that does not change is not stored
abbrev pub base_events : (old new : ℕ) → List Event
base_events old new = if nat_eq old new then [] else StoreBase new ∷ FlushBase ∷ []

-- a head that is at its doorbell is not stored
abbrev pub head_events : (queue head doorbell : ℕ) → List Event
head_events queue head doorbell =
    if nat_eq head doorbell then [] else StoreHead queue doorbell ∷ FlushHead queue ∷ []

-- those of all queues from this one on, which have these ports
abbrev pub heads_events : ℕ → List PortState → List Event
heads_events q [] = []
heads_events q (p ∷ ps) = head_events q p.head p.doorbell ++ heads_events (q + 1) ps

-- all events of a recovery of this drive, in their order
abbrev pub recovery_events : DriveState → Writes → (top : ℕ) → List Event
recovery_events d writes top =
    home_events writes ++ (base_events d.root.base top ++ heads_events 0 d.queues)

-- The home writes of a recovery: each home block that has a copy left, in rising order, with the
-- content of its newest copy that no later transaction revokes.
pub record AreHomeWrites (g : Geometry) (d : DriveState) (ds : List Descriptor)
    (writes : Writes) : Type 0 where
  pub rising : AreRising 0 (homes_of g) (map (λ w. w.0) writes)
  pub copies : (x : ℕ) → written writes x ≡ content_of (view_over g d).area (area_of g) (copy_of ds x)

-- After a refusal by the drive the first of these events happened, and no other: fewer than all at
-- an `Off`, and up to the begin of its home write at a `Failed`.
abbrev pub StopsAt : Geometry → RecoverRefusal → (old : DriveState) → List Event → (new : DriveState)
    → Type 0
StopsAt g (Image fault) old events new = ⊥
StopsAt g Off old events new = (k : ℕ) × (k < length events) × (new ≡ after_events g old (take k events))
StopsAt g (Failed block status) old events new =
    (k : ℕ) × (content : List ℕ) × (slice_get events k ≡ Some (BeginHome block content))
    × (new ≡ after_events g old (take (k + 1) events))
