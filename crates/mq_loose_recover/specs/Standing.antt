-- What stands on the home blocks of an image of the loose order, and what a recovery makes of it.
use Rattle.std.specs.Prelude.{◌≡◌, ◌⊎◌, ◌<◌, ℕ, List, [], length, reverse, Option, Some, None, slice_index_or}
use Rattle.mq_blocks.specs.Descriptor.{Descriptor}
use Rattle.mq_blocks.specs.Drive.{PortImage}
use Rattle.mq_blocks.specs.Geometry.{homes_of}
use Rattle.mq_blocks.specs.Journal.{shown, stands}
use Rattle.mq_blocks.specs.Machine.{Writes}
use Rattle.mq_blocks.specs.declared.geometry.Geometry.{Geometry}
use Rattle.mq_ledger.specs.Items.{Entries}
use Rattle.mq_ledger.specs.State.{IsStart}
use Rattle.mq_ledger.specs.Written.{entries_of}
use Rattle.mq_loose_order.specs.Form.{loose_form}
use Rattle.mq_loose_order.specs.Standing.{numbers_of}
use Rattle.mq_recover.specs.Drives.{AreImages, ArePorts, DriveState, view_over}
use Rattle.mq_recover.specs.Events.{AreHomeWrites, StopsAt, after_events, recovery_events}
use Rattle.mq_recover.specs.Recovering.{AreBegunAs, AreStanding, IsRecovered}
use Rattle.mq_recover.specs.Recovery.{started}
use Rattle.mq_recover.specs.declared.refusal.RecoverRefusal.{RecoverRefusal}
use Rattle.mq_loose_recover.specs.Images.{IsLooselyRead, loose_reading, loose_view}
use Rattle.mq_loose_recover.specs.declared.standing.LooseStanding.{LooseStanding}

-- The blocks are what stands on the home blocks by these descriptors, newest first, and the set has their
-- numbers, the least first.
pub record IsLooseStanding (g : Geometry) (d : DriveState) (ds : List Descriptor) (top : ℕ)
    (s : LooseStanding) : Type 0 where
  pub blocks : AreStanding g d ds s.blocks.items
  pub set : s.set.items ≡ reverse (numbers_of ds)
  pub top_is : s.top ≡ top

-- the image is readable, this is what stands, and the base is the image's
pub record LooselyStands (g : Geometry) (d : DriveState) (s : LooseStanding) : Type 0 where
  pub deps : ℕ → List ℕ
  pub ds : List Descriptor
  pub top : ℕ
  pub read : IsLooselyRead deps g (loose_view deps g d) ds top
  pub standing : IsLooseStanding g d ds top s
  pub base_is : s.base ≡ d.root.base

-- Each image of the ports is readable, shows the same greatest number, and stands for what stood before by these
-- descriptors: by the same ones over the old base, or at home alone over the greatest number.
abbrev pub LooselyStandsAs : (deps : ℕ → List ℕ) (g : Geometry) (old : DriveState) (ds : List Descriptor)
    (top : ℕ) (new : DriveState)
    → Type 0
LooselyStandsAs deps g old ds top new =
    (queues : List PortImage) (root : PortImage) → AreImages g new queues root
    → (es : List Descriptor) × IsLooselyRead deps g (shown (loose_reading deps) g queues root) es top
    × (((root.base ≡ old.root.base) × (es ≡ ds)) ⊎ ((root.base ≡ top) × (es ≡ [])))
    × ((b : ℕ) → b < homes_of g
    → stands g (shown (loose_reading deps) g queues root) es b ≡ stands g (loose_view deps g old) ds b)

-- ---- the start of a journal

-- the journal's entries, with descriptors of the loose order, where nothing depends on anything yet
abbrev pub loose_entries : Entries
loose_entries = entries_of (loose_form (λ n. []))

-- the drive is a start of the loose machine, over each map whose blocks stand at home
abbrev pub IsLooseStartDrive : Geometry → DriveState → Type 0
IsLooseStartDrive g d =
    (start : List (Option (List ℕ))) → length start ≡ homes_of g
    → ((x : ℕ) (content : List ℕ) → x < homes_of g → slice_index_or start x None ≡ Some content
    → (view_over g d).home x ≡ content)
    → IsStart loose_entries (started g d start)

-- ---- a recovery

-- A whole recovery. It answers what stood at entry; the base is the greatest number that the image showed. Over
-- it nothing is left to bring home, no home write of this recovery is under way, and the loose machine may start.
pub record HasLooselyRecovered (g : Geometry) (old : DriveState) (s : LooseStanding)
    (new : DriveState) : Type 0 where
  pub deps : ℕ → List ℕ
  pub ds : List Descriptor
  pub top : ℕ
  pub read : IsLooselyRead deps g (loose_view deps g old) ds top
  pub standing : IsLooseStanding g old ds top s
  pub base_is : s.base ≡ top
  pub writes : Writes
  pub home_writes : AreHomeWrites g old ds writes
  pub events : new ≡ after_events g old (recovery_events old writes top)
  pub recovered : IsRecovered g old ds top new
  pub stands : LooselyStandsAs deps g old ds top new
  pub again : IsLooselyRead deps g (loose_view deps g new) [] top
  pub begun : AreBegunAs g old new
  pub start : IsLooseStartDrive g new

-- A recovery that the drive cut short: it may be begun again.
pub record IsLooselyCutShort (g : Geometry) (refusal : RecoverRefusal) (old new : DriveState) : Type 0 where
  pub deps : ℕ → List ℕ
  pub ds : List Descriptor
  pub top : ℕ
  pub read : IsLooselyRead deps g (loose_view deps g old) ds top
  pub writes : Writes
  pub home_writes : AreHomeWrites g old ds writes
  pub events : StopsAt g refusal old (recovery_events old writes top) new
  pub ports : ArePorts g new
  pub stands : LooselyStandsAs deps g old ds top new
