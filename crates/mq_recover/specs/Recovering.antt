-- What a recovery makes of a drive, from the descriptors that were chosen to stand.
use Rattle.std.specs.Prelude.{◌≡◌, ◌<◌, ◌≤◌, ℕ, List, Option, length}
use Rattle.mq_blocks.specs.Blocks.{block_at}
use Rattle.mq_blocks.specs.Descriptor.{Descriptor}
use Rattle.mq_blocks.specs.Drive.{PortState}
use Rattle.mq_blocks.specs.Geometry.{homes_of}
use Rattle.mq_blocks.specs.Journal.{or_else, stands}
use Rattle.mq_blocks.specs.Machine.{Writes}
use Rattle.mq_blocks.specs.declared.geometry.Geometry.{Geometry}
use Rattle.mq_ledger.specs.State.{port_at}
use Rattle.mq_recover.specs.Copies.{AreCopies, content_of}
use Rattle.mq_recover.specs.Drives.{DriveState, ArePorts, IsQuiescentDrive, view_over}
use Rattle.mq_recover.specs.Events.{AreHomeWrites, StopsAt, after_events, recovery_events}
use Rattle.mq_recover.specs.declared.copies.CopyPlace.{CopyPlace}
use Rattle.mq_recover.specs.declared.refusal.RecoverRefusal.{RecoverRefusal}

-- the copies of some descriptors of the drive's queues stand there
abbrev pub HaveCopies : Geometry → List (Option CopyPlace) → Type 0
HaveCopies g copies = (ds : List Descriptor) × AreCopies g ds copies

-- the content of a block's copy, if it has one somewhere, else what is at home
abbrev pub newest_of : Geometry → DriveState → Option CopyPlace → ℕ → List ℕ
newest_of g d copy b = or_else (content_of (view_over g d).area g.area copy) ((view_over g d).home b)

-- each home block is what stands on it by these descriptors
pub record AreStanding (g : Geometry) (d : DriveState) (ds : List Descriptor)
    (blocks : List (Option (List ℕ))) : Type 0 where
  pub whole : length blocks ≡ homes_of g
  pub are : (b : ℕ) → b < homes_of g → block_at blocks b ≡ stands g (view_over g d) ds b

-- each head may go to its doorbell
abbrev pub AreHeadsLow : Geometry → DriveState → Type 0
AreHeadsLow g d = (q : ℕ) → q < g.queues → (port_at d.queues q).head ≤ (port_at d.queues q).doorbell

-- a queue's head is at its doorbell, which is where it was
pub record IsAtDoorbell (old new : PortState) : Type 0 where
  pub head : new.head ≡ new.doorbell
  pub doorbell : new.doorbell ≡ old.doorbell

-- The home blocks hold what stood before by these descriptors, the base is the greatest number that
-- the image showed, and the heads are at the doorbells.
pub record IsRecovered (g : Geometry) (old : DriveState) (ds : List Descriptor) (top : ℕ)
    (new : DriveState) : Type 0 where
  pub still : IsQuiescentDrive g new
  pub homes : (b : ℕ) → b < homes_of g → (view_over g new).home b ≡ stands g (view_over g old) ds b
  pub base : new.root.base ≡ top
  pub heads : (q : ℕ) → q < g.queues → IsAtDoorbell (port_at old.queues q) (port_at new.queues q)

-- on each port the home writes that have begun and not ended are the same
pub record AreBegunAs (g : Geometry) (old new : DriveState) : Type 0 where
  pub queues : (q : ℕ) → q < g.queues → (port_at new.queues q).begun ≡ (port_at old.queues q).begun
  pub root : new.root.begun ≡ old.root.begun

-- A whole recovery from these descriptors, newest first, to a new base.
pub record HasWritten (g : Geometry) (old : DriveState) (ds : List Descriptor) (top : ℕ)
    (new : DriveState) : Type 0 where
  pub writes : Writes
  pub home_writes : AreHomeWrites g old ds writes
  pub events : new ≡ after_events g old (recovery_events old writes top)
  pub recovered : IsRecovered g old ds top new
  pub begun : AreBegunAs g old new

-- A recovery from these descriptors that the drive cut short.
pub record HasStopped (g : Geometry) (refusal : RecoverRefusal) (old : DriveState) (ds : List Descriptor)
    (top : ℕ) (new : DriveState) : Type 0 where
  pub writes : Writes
  pub home_writes : AreHomeWrites g old ds writes
  pub events : StopsAt g refusal old (recovery_events old writes top) new
  pub ports : ArePorts g new
