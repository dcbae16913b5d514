-- Why recovery is refused.
use Rattle.std.specs.Prelude.{◌≡◌, ◌<◌, ℕ, List, [], length, Option, Some, None, Result, Ok, Err, slice_index_or, slice_set}
use Rattle.mq_blocks.specs.Geometry.{home_lba, zone_of}
use Rattle.mq_blocks.specs.declared.geometry.Geometry.{Geometry}
use Rattle.mq_drive.specs.Steps.{PortFault, PowerOff, HomeError, Gains}
use Rattle.mq_drive.specs.declared.port.Off.{Off as IsOff}
use Rattle.mq_recover.specs.Drives.{DriveFaults}
use Rattle.mq_recover.specs.declared.refusal.ImageFault.{ImageFault}
use Rattle.mq_recover.specs.declared.refusal.RecoverRefusal.{RecoverRefusal}
use Rattle.mq_recover.specs.declared.refusal.RecoverRefusal.TheVariants.{Image, Off, Failed}

-- a refusal is one more fault of the port, and an Ok is none
abbrev pub HasHomeCause : {A : Type 0} → Geometry → Result A RecoverRefusal → (old new : List PortFault)
    → Type 0
HasHomeCause g (Ok _) old new = new ≡ old
HasHomeCause g (Err (Image _)) old new = ⊥
HasHomeCause g (Err Off) old new = Gains PowerOff old new
HasHomeCause g (Err (Failed block status)) old new = Gains (HomeError (home_lba g block) status) old new

-- one port has one more fault, a queue's or the root's, and all others have none
abbrev pub OneGains : Option ℕ → PortFault → (old new : DriveFaults) → Type 0
OneGains None f old new = (new.queues ≡ old.queues) × Gains f old.root new.root
OneGains (Some q) f old new =
    (q < length old.queues) × (faults : List PortFault)
    × Gains f (slice_index_or old.queues q []) faults × (new.queues ≡ slice_set old.queues q faults)
    × (new.root ≡ old.root)

-- A refusal of the drive is one more fault of one port, of a home write that of the block's zone;
-- else there is none.
abbrev pub HasDriveCause : {A : Type 0} → Geometry → Result A RecoverRefusal → (old new : DriveFaults)
    → Type 0
HasDriveCause g (Ok _) old new = new ≡ old
HasDriveCause g (Err (Image _)) old new = new ≡ old
HasDriveCause g (Err Off) old new = (port : Option ℕ) × OneGains port PowerOff old new
HasDriveCause g (Err (Failed block status)) old new =
    OneGains (zone_of g block) (HomeError (home_lba g block) status) old new

-- a refusal is one more fault of one of these queues, and an Ok is none
abbrev pub HasMoveCause : {A : Type 0} → Result A IsOff → (old new : List (List PortFault)) → Type 0
HasMoveCause (Ok _) old new = new ≡ old
HasMoveCause (Err _) old new =
    (q : ℕ) × (q < length old) × (faults : List PortFault)
    × Gains PowerOff (slice_index_or old q []) faults × (new ≡ slice_set old q faults)

-- this holds of the fault after a refusal of the image
abbrev pub OnImage : {A : Type 0} → Result A RecoverRefusal → (ImageFault → Type 0) → Type 0
OnImage (Err (Image fault)) P = P fault
OnImage _ P = Unit {0}

-- this holds of a refusal by the drive
abbrev pub OnDrive : {A : Type 0} → Result A RecoverRefusal → (RecoverRefusal → Type 0) → Type 0
OnDrive (Err Off) P = P Off
OnDrive (Err (Failed block status)) P = P (Failed block status)
OnDrive _ P = Unit {0}

-- this holds unless the image is refused
abbrev pub UnlessImage : {A : Type 0} → Result A RecoverRefusal → Type 0 → Type 0
UnlessImage (Err (Image _)) P = Unit {0}
UnlessImage _ P = P
