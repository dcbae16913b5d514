-- A whole recovery of an image, one that the drive cut short, and one that is begun again.
use Rattle.std.specs.Prelude.{◌≡◌, ◌⊎◌, ℕ, List, [], length}
use Rattle.mq_blocks.specs.Descriptor.{Descriptor}
use Rattle.mq_blocks.specs.Machine.{Writes}
use Rattle.mq_blocks.specs.declared.geometry.Geometry.{Geometry}
use Rattle.mq_recover.specs.Drives.{DriveState, ArePorts, view_over}
use Rattle.mq_recover.specs.Events.{AreHomeWrites, StopsAt, after_events, recovery_events}
use Rattle.mq_recover.specs.Recovering.{AreBegunAs, IsRecovered}
use Rattle.mq_recover.specs.Recovery.{IsReadPrefix, StandsAs, IsStartDrive}
use Rattle.mq_recover.specs.declared.refusal.RecoverRefusal.{RecoverRefusal}

-- A whole recovery: the prefix of the image at entry, and its greatest number, which is the new base.
-- Over it nothing is left to bring home, no home write of this recovery is under way, and the pure
-- machine may start.
pub record HasRecovered (g : Geometry) (old : DriveState) (found base : ℕ) (new : DriveState) : Type 0 where
  pub ds : List Descriptor
  pub read : IsReadPrefix g (view_over g old) ds base
  pub writes : Writes
  pub home_writes : AreHomeWrites g old ds writes
  pub prefix_is : found ≡ length ds
  pub events : new ≡ after_events g old (recovery_events old writes base)
  pub recovered : IsRecovered g old ds base new
  pub stands : StandsAs g old ds base new
  pub again : IsReadPrefix g (view_over g new) [] base
  pub begun : AreBegunAs g old new
  pub start : IsStartDrive g new

-- A recovery that the drive cut short: it may be begun again.
pub record IsCutShort (g : Geometry) (refusal : RecoverRefusal) (old new : DriveState) : Type 0 where
  pub ds : List Descriptor
  pub top : ℕ
  pub read : IsReadPrefix g (view_over g old) ds top
  pub writes : Writes
  pub home_writes : AreHomeWrites g old ds writes
  pub events : StopsAt g refusal old (recovery_events old writes top) new
  pub ports : ArePorts g new
  pub stands : StandsAs g old ds top new

-- A later recovery of what was left of this drive recovers what was to be recovered: from the same
-- descriptors over the old base, or from none over the new one.
pub record IsAgain (g : Geometry) (old : DriveState) (ds : List Descriptor) (top : ℕ)
    (start : DriveState) (es : List Descriptor) (base : ℕ) (later : DriveState) : Type 0 where
  pub recovered : IsRecovered g old ds top later
  pub base_is : base ≡ top
  pub left : ((start.root.base ≡ old.root.base) × (es ≡ ds)) ⊎ ((start.root.base ≡ top) × (es ≡ []))
