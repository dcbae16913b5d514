-- How often the doorbell of a replica is rung.
use Rattle.std.proofs.Common.{◌≡◌, ℕ, zero, suc, List, [], ◌∷◌, Option, Some, None, refl, ap, set, ◌∙◌}
use Rattle.mq_blocks.specs.Drive.{PortState, after_begin, after_end, after_flush, after_store_head, counted}
use Rattle.mq_blocks.specs.Geometry.{home_lba, zone_of}
use Rattle.mq_blocks.specs.declared.geometry.Geometry.{Geometry}
use Rattle.mq_ledger.specs.State.{port_at}
use Rattle.mq_pmr.specs.Runs.{Items}
use Rattle.mq_queue_side.specs.Sent.{after_send}
use Rattle.mq_recover.specs.Drives.{DriveState}
use Rattle.mq_recover.specs.Events.{Event, BeginHome, EndHome, StoreBase, FlushBase, StoreHead, FlushHead, after_event, after_events, at_home}

-- a send rings it once
pub ring_sent : (old numbered : PortState) (tx : ℕ) (items : Items) (new : PortState) → numbered ≡ old → new ≡ after_send numbered tx items → new.rings ≡ counted old.rings 1
ring_sent old numbered tx items new same is = ap (λ (p : PortState). p.rings) is ∙ ap (λ (p : PortState). counted p.rings 1) same

-- ---- a recovery doesn't

set_ring : (ports : List PortState) (q : ℕ) (f : PortState → PortState) → ((t : PortState) → (f t).rings ≡ t.rings) → (port_at (set ports q (f (port_at ports q))) 0).rings ≡ (port_at ports 0).rings
set_ring [] q f same = refl
set_ring (p ∷ ps) zero f same = same p
set_ring (p ∷ ps) (suc q) f same = refl

home_ring : (d : DriveState) (z : Option ℕ) (f : PortState → PortState) → ((t : PortState) → (f t).rings ≡ t.rings) → (port_at (at_home z f d).queues 0).rings ≡ (port_at d.queues 0).rings
home_ring d None f same = refl
home_ring d (Some q) f same = set_ring d.queues q f same

event_ring : (g : Geometry) (d : DriveState) (x : Event) → (port_at (after_event g d x).queues 0).rings ≡ (port_at d.queues 0).rings
event_ring g d (BeginHome b content) = home_ring d (zone_of g b) (λ s. after_begin s (home_lba g b) content) (λ t. refl)
event_ring g d (EndHome b content) = home_ring d (zone_of g b) (λ s. after_end s (home_lba g b) content) (λ t. refl)
event_ring g d (StoreBase base) = refl
event_ring g d FlushBase = refl
event_ring g d (StoreHead q head) = home_ring d (Some q) (λ s. after_store_head s head) (λ t. refl)
event_ring g d (FlushHead q) = home_ring d (Some q) after_flush (λ t. refl)

pub events_ring : (g : Geometry) (d : DriveState) (xs : List Event) → (port_at (after_events g d xs).queues 0).rings ≡ (port_at d.queues 0).rings
events_ring g d [] = refl
events_ring g d (x ∷ xs) = events_ring g (after_event g d x) xs ∙ event_ring g d x
