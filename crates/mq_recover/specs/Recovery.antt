-- What an image stands for by the transactions right above its base, and the start of a journal.
use Rattle.std.specs.Prelude.{◌≡◌, ◌⊎◌, ◌<◌, ℕ, ◌^◌, ◌-◌, List, [], length, map, replicate, Option, Some, None, slice_index_or}
use Rattle.mq_nvme.specs.Says.{journal_reading}
use Rattle.mq_blocks.specs.Descriptor.{Descriptor, journal_form}
use Rattle.mq_blocks.specs.Drive.{PortState, PortImage}
use Rattle.mq_blocks.specs.Geometry.{homes_of}
use Rattle.mq_blocks.specs.Journal.{Shown, shown, AreWhole, IsPrefix, IsTop, stands}
use Rattle.mq_blocks.specs.declared.geometry.Geometry.{Geometry}
use Rattle.mq_ledger.specs.State.{State, IsStart, port_at}
use Rattle.mq_recover.specs.Drives.{DriveState, AreImages, view_over}
use Rattle.mq_ledger.specs.Written.{journal_entries}

-- An image is readable: the descriptors of its prefix, newest first, and the greatest number that it
-- shows.
pub record IsReadPrefix (g : Geometry) (i : Shown) (ds : List Descriptor) (top : ℕ) : Type 0 where
  pub form_is : i.form ≡ journal_form
  pub chains : ℕ → List Descriptor
  pub whole : AreWhole g i chains
  pub prefix : IsPrefix g i chains ds
  pub top_is : IsTop g i chains top

-- Each image of the ports is readable, shows the same greatest number, and stands for what stood
-- before by these descriptors: by the same ones over the old base, or at home alone over the greatest
-- number.
abbrev pub StandsAs : (g : Geometry) (old : DriveState) (ds : List Descriptor) (top : ℕ)
    (new : DriveState)
    → Type 0
StandsAs g old ds top new =
    (queues : List PortImage) (root : PortImage) → AreImages g new queues root
    → (es : List Descriptor) × IsReadPrefix g (shown journal_reading g queues root) es top
    × (((root.base ≡ old.root.base) × (es ≡ ds)) ⊎ ((root.base ≡ top) × (es ≡ [])))
    × ((b : ℕ) → b < homes_of g
    → stands g (shown journal_reading g queues root) es b ≡ stands g (view_over g old) ds b)

-- ---- the start of a journal

-- the state of the pure machine in which nothing has happened yet on these ports, over a map
abbrev pub started : Geometry → DriveState → List (Option (List ℕ)) → State
started g d start = record {
  geometry = g;
  start = start;
  base = d.root.base;
  starts = map (λ p. p.doorbell) d.queues;
  history = [];
  ports = d.queues;
  root = d.root;
  marks = replicate g.queues (2 ^ 64 - 1);
  writing = [];
  acknowledged = [];
}

-- the drive is a start of the machine, over each map whose blocks stand at home
abbrev pub IsStartDrive : Geometry → DriveState → Type 0
IsStartDrive g d =
    (start : List (Option (List ℕ))) → length start ≡ homes_of g
    → ((x : ℕ) (content : List ℕ) → x < homes_of g → slice_index_or start x None ≡ Some content
    → (view_over g d).home x ≡ content)
    → IsStart journal_entries (started g d start)
