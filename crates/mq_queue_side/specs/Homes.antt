-- Home writes through a side or the root.
use Rattle.std.specs.Prelude.{◌≡◌, ◌<◌, ℕ, List, Option, Some, None, Result, Ok, Err}
use Rattle.mq_blocks.specs.Drive.{PortState}
use Rattle.mq_blocks.specs.Geometry.{homes_of, zone_of, home_lba}
use Rattle.mq_drive.specs.declared.port.Off.{Off}
use Rattle.mq_drive.specs.declared.port.HomeStep.{HomeStep}
use Rattle.mq_drive.specs.declared.port.HomeStep.TheVariants as home
use Rattle.mq_ledger.specs.KnownJournal.{KnownJournal, LogOk}
use Rattle.mq_ledger.specs.Sides.{Certainly, RootOk, home_index}
use Rattle.mq_ledger.specs.declared.tx.Tx.{Tx}
use Rattle.mq_core.specs.Homes.{IsLoggedLast}
use Rattle.mq_queue_side.specs.Side.{SideState, IsQueueSide}

-- This is a home block of the queue's zone, or of the metadata region, and nobody needs another content of
-- it.
pub record MayGoHome (k : KnownJournal) (z : Option ℕ) (x lba : ℕ) : Type 0 where
  pub block : x < homes_of k.geometry
  pub zone : zone_of k.geometry x ≡ z
  pub lba_is : lba ≡ home_lba k.geometry x
  pub last_is : IsLoggedLast k x

-- whatever is known, the side stays one
abbrev pub StaysAt : ℕ → SideState → SideState → Type 0
StaysAt lba old new =
    (q : ℕ) (k : KnownJournal) (us : List Tx) (x : ℕ) → LogOk k → MayGoHome k (Some q) x lba
    → IsQueueSide k q us old → IsQueueSide k q us new

-- and where the write ended with success, the content is certainly at home
abbrev pub GoesHome : ℕ → List ℕ → SideState → Result HomeStep Off → SideState → Type 0
GoesHome lba block old (Ok home.Done) new =
    (q : ℕ) (k : KnownJournal) (us : List Tx) (x : ℕ) → LogOk k → MayGoHome k (Some q) x lba
    → IsQueueSide k q us old → Certainly new.port (home_index k.geometry x) block
GoesHome lba block old (Ok (home.Error status)) new = Unit {0}
GoesHome lba block old (Err _) new = Unit {0}

-- the same of the root
abbrev pub RootStaysAt : ℕ → PortState → PortState → Type 0
RootStaysAt lba old new =
    (k : KnownJournal) (x : ℕ) → LogOk k → MayGoHome k None x lba → RootOk k old → RootOk k new

abbrev pub RootGoesHome : ℕ → List ℕ → PortState → Result HomeStep Off → PortState → Type 0
RootGoesHome lba block old (Ok home.Done) new =
    (k : KnownJournal) (x : ℕ) → LogOk k → MayGoHome k None x lba → RootOk k old
    → Certainly new (home_index k.geometry x) block
RootGoesHome lba block old (Ok (home.Error status)) new = Unit {0}
RootGoesHome lba block old (Err _) new = Unit {0}
