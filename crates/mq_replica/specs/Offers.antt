-- A replica as the contracts of its calls see it, and what its calls answer and leave.
use Rattle.std.specs.Prelude.{◌≡◌, ◌≢◌, ◌⊎◌, ◌<◌, ◌≤◌, ◌^◌, ℕ, ◌+◌, Bool, true, false, List, length, Result, Ok, Err}
use Rattle.mq_blocks.specs.Descriptor.{Descriptor}
use Rattle.mq_blocks.specs.Drive.{counted}
use Rattle.mq_blocks.specs.Journal.{Reaches, stands}
use Rattle.mq_blocks.specs.Machine.{Writes}
use Rattle.mq_blocks.specs.declared.geometry.Geometry.{Geometry}
use Rattle.mq_ledger.specs.History.{blocks_of}
use Rattle.mq_ledger.specs.State.{port_at}
use Rattle.mq_queue_side.specs.Commits.{descriptor_size}
use Rattle.mq_recover.specs.Drives.{AreBoundsKept, DriveFaults, DriveState, IsQuiescentDrive, view_over}
use Rattle.mq_recover.specs.Recovery.{IsReadPrefix}
use Rattle.mq_recover.specs.declared.refusal.RecoverRefusal.{RecoverRefusal}
use Rattle.mq_recover.specs.declared.refusal.RecoverRefusal.TheVariants as recovery
use Rattle.mq_replica.specs.Applying.{HaveRisen}
use Rattle.mq_replica.specs.Contents.{after_update, number_of}
use Rattle.mq_replica.specs.Images.{StandsFor, StandsForEither}
use Rattle.mq_replica.specs.Updates.{AreBelow, AreWritesFit, IsFirstNotBelow, last_home, update_limit}
use Rattle.mq_replica.specs.declared.update.OfferRefusal.{OfferRefusal}
use Rattle.mq_replica.specs.declared.update.OfferRefusal.TheVariants.{Stopped, Limit, Range, TooLarge, OutOfMemory, Off, Failed}
use Rattle.mq_replica.specs.declared.update.Update.{Update}

pub record ReplicaState : Type 0 where
  pub geometry : Geometry
  pub drive : DriveState
  pub faults : DriveFaults
  -- the number in its last block, and how many updates were offered to it since it was opened
  pub reached : ℕ
  pub offers : ℕ
  -- whether an offer met a cause of the drive
  pub stopped : Bool

-- the greatest number and doorbell at an opening, and a number above which no update is applied
abbrev pub opening_limit : ℕ
opening_limit = 2 ^ 62

-- ---- an offer

-- Of a replica that has reached a number and may be stopped, the writes of the next update are refused before
-- any memory is taken.
abbrev pub IsRefusedFor : Geometry → (reached : ℕ) → (stopped : Bool) → Writes → OfferRefusal → Type 0
IsRefusedFor g reached stopped ws Stopped = stopped ≡ true
IsRefusedFor g reached stopped ws Limit = (stopped ≡ false) × (opening_limit ≤ reached)
IsRefusedFor g reached stopped ws (Range block) =
    (stopped ≡ false) × (reached < opening_limit) × IsFirstNotBelow (last_home g) (blocks_of ws) block
IsRefusedFor g reached stopped ws (TooLarge count limit) =
    (stopped ≡ false) × (reached < opening_limit) × AreBelow (last_home g) (blocks_of ws)
    × (limit < count) × (count ≡ length ws) × (limit ≡ update_limit g)
IsRefusedFor g reached stopped ws OutOfMemory = ⊥
IsRefusedFor g reached stopped ws Off = ⊥
IsRefusedFor g reached stopped ws (Failed status) = ⊥

-- they aren't
pub record MayApply (g : Geometry) (reached : ℕ) (stopped : Bool) (ws : Writes) : Type 0 where
  pub runs : stopped ≡ false
  pub low : reached < opening_limit
  pub fit : AreWritesFit g ws

abbrev pub doorbell_of : ReplicaState → ℕ
doorbell_of r = (port_at r.drive.queues 0).doorbell

-- how often its doorbell was rung
abbrev pub rings_of : ReplicaState → ℕ
rings_of r = (port_at r.drive.queues 0).rings

-- what every offer leaves: the power lasts as it did, and the same command is to fail
pub record IsOffered (old new : ReplicaState) : Type 0 where
  pub geometry : new.geometry ≡ old.geometry
  pub offers : new.offers ≡ old.offers + 1
  pub bounds : AreBoundsKept old.geometry old.drive new.drive

-- Nothing was done.
pub record IsUntouched (old new : ReplicaState) : Type 0 where
  pub offered : IsOffered old new
  pub drive : new.drive ≡ old.drive
  pub faults : new.faults ≡ old.faults
  pub reached : new.reached ≡ old.reached
  pub stopped : new.stopped ≡ old.stopped

-- Each image stands for the contents after the update, where each stood for those before it. The entries
-- are those of its writes, of the last block, and of the descriptor, and one ring makes all of them visible.
pub record IsApplied (old : ReplicaState) (u : Update) (new : ReplicaState) : Type 0 where
  pub offered : IsOffered old new
  pub faults : new.faults ≡ old.faults
  pub reached : new.reached ≡ u.number
  pub stopped : new.stopped ≡ false
  pub stands : (c : ℕ → List ℕ) → StandsFor old.geometry old.drive c
      → StandsFor old.geometry new.drive (after_update old.geometry u c)
  pub entries : doorbell_of new
      ≡ doorbell_of old + (length u.writes + 1 + descriptor_size (length u.writes + 1) 0)
  pub rings : rings_of new ≡ counted (rings_of old) 1

-- Memory ran out, perhaps after the area was reclaimed: each image stands for what it stood for.
pub record IsKept (old new : ReplicaState) : Type 0 where
  pub offered : IsOffered old new
  pub faults : new.faults ≡ old.faults
  pub reached : new.reached ≡ old.reached
  pub stopped : new.stopped ≡ false
  pub stands : (c : ℕ → List ℕ) → StandsFor old.geometry old.drive c → StandsFor old.geometry new.drive c
  pub entries : doorbell_of new ≡ doorbell_of old
  pub rings : rings_of new ≡ rings_of old

-- The drive stopped it: each image stands for what it stood for, or for the contents after the update.
pub record IsStopped (old : ReplicaState) (u : Update) (new : ReplicaState) : Type 0 where
  pub offered : IsOffered old new
  pub risen : HaveRisen old.faults new.faults
  pub reached : new.reached ≡ old.reached
  pub stopped : new.stopped ≡ true
  pub stands : (c : ℕ → List ℕ) → StandsFor old.geometry old.drive c
      → StandsForEither old.geometry new.drive c (after_update old.geometry u c)

abbrev pub IsRefused : ReplicaState → Update → OfferRefusal → Type 0
IsRefused r u e = IsRefusedFor r.geometry r.reached r.stopped u.writes e

abbrev pub IsApplicable : ReplicaState → Update → Type 0
IsApplicable r u = MayApply r.geometry r.reached r.stopped u.writes

abbrev pub LeavesOn : ReplicaState → Update → OfferRefusal → ReplicaState → Type 0
LeavesOn old u OutOfMemory new = IsApplicable old u × IsKept old new
LeavesOn old u Off new = IsApplicable old u × IsStopped old u new
LeavesOn old u (Failed status) new = IsApplicable old u × IsStopped old u new
LeavesOn old u Stopped new = IsRefused old u Stopped × IsUntouched old new
LeavesOn old u Limit new = IsRefused old u Limit × IsUntouched old new
LeavesOn old u (Range block) new = IsRefused old u (Range block) × IsUntouched old new
LeavesOn old u (TooLarge count limit) new = IsRefused old u (TooLarge count limit) × IsUntouched old new

-- An update that isn't the next changes nothing, and is never refused.
abbrev pub Offers : ReplicaState → Update → Result ℕ OfferRefusal → ReplicaState → Type 0
Offers old u (Ok n) new =
    (n ≡ new.reached)
    × (((u.number ≡ old.reached + 1) × IsApplicable old u × IsApplied old u new)
    ⊎ ((u.number ≢ old.reached + 1) × IsUntouched old new))
Offers old u (Err e) new = (u.number ≡ old.reached + 1) × LeavesOn old u e new

-- ---- an opening

-- What the ports may be on which a replica is opened.
pub record MayOpen (g : Geometry) (d : DriveState) : Type 0 where
  pub one : g.queues ≡ 1
  pub quiet : IsQuiescentDrive g d
  pub rung : (port_at d.queues 0).doorbell ≤ opening_limit
  pub shown : (ds : List Descriptor) (top : ℕ) → IsReadPrefix g (view_over g d) ds top → top ≤ opening_limit

-- Each image stands for what stood on the ports, and the last block says the number.
pub record IsOpenedOn (g : Geometry) (d : DriveState) (r : ReplicaState) : Type 0 where
  pub shape : r.geometry ≡ g
  pub bounds : AreBoundsKept g d r.drive
  pub ds : List Descriptor
  pub read : Reaches g (view_over g d) ds
  pub images : StandsFor g r.drive (stands g (view_over g d) ds)
  pub reached : r.reached ≡ number_of g (stands g (view_over g d) ds)
  pub offers : r.offers ≡ 0
  pub stopped : r.stopped ≡ false
  pub entries : doorbell_of r ≡ (port_at d.queues 0).doorbell
  pub rings : rings_of r ≡ (port_at d.queues 0).rings

-- Each image of the ports that are given back stands for what stood on them.
pub record IsGivenBack (g : Geometry) (d new : DriveState) : Type 0 where
  pub bounds : AreBoundsKept g d new
  pub ds : List Descriptor
  pub read : Reaches g (view_over g d) ds
  pub images : StandsFor g new (stands g (view_over g d) ds)

-- a refusal of the image leaves the ports as they were
abbrev pub IsOpenRefused : Geometry → DriveState → RecoverRefusal → DriveState → Type 0
IsOpenRefused g d (recovery.Image fault) new = new ≡ d
IsOpenRefused g d recovery.Off new = IsGivenBack g d new
IsOpenRefused g d (recovery.Failed block status) new = IsGivenBack g d new
