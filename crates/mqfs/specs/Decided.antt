-- The status with which each command ends, by what the files hold, where nothing fails and memory does not
-- run out: one definition for each command.
use Rattle.std.specs.Prelude.{◌≡◌, ◌⊎◌, ◌<◌, ◌≤◌, ℕ, List, length, Option, None, Some, Ok, Err}
use Rattle.mq_blocks.specs.Descriptor.{Descriptor}
use Rattle.mq_blocks.specs.Geometry.{queues_of}
use Rattle.mq_blocks.specs.Journal.{AreWhole}
use Rattle.mq_blocks.specs.declared.geometry.Geometry.{Geometry}
use Rattle.mq_blocks.specs.declared.geometry.GeometryRefusal.{GeometryRefusal}
use Rattle.mq_command_images.specs.Commands.{RefusesNumbers, numbers_of}
use Rattle.mq_command_run.specs.RunsScripts.{HoldBadScript, HoldScripts}
use Rattle.mq_command_images.specs.declared.formatting.Numbers.{Numbers}
use Rattle.mq_image.specs.Drives.{IsRead}
use Rattle.mq_image.specs.Faults.{HasFault}
use Rattle.mq_image.specs.File.{DriveImage}
use Rattle.mq_image.specs.declared.fault.FileFault.{FileFault}
use Rattle.mq_image_run.specs.Limits.{AreWithin, IsFirstAbove}
use Rattle.mq_image_ops.specs.Standing.{HasNoVolume, Reads, RefusesDrive, StandsFor}
use Rattle.mq_image_ops.specs.Views.{view_of}
use Rattle.mq_outside.specs.Outside.{Held, Tells}
use Rattle.mq_recover.specs.declared.refusal.ImageFault.{ImageFault}
use Rattle.mq_script.specs.Scripts.{Script}
use Rattle.mq_audit.specs.Traces.{IsMisread, IsTrace, Trace}
use Rattle.mq_command_blocks.specs.SaysOfBlocks.{TextDecides}
use Rattle.mq_command_loose.specs.SaysOfLoose.{LooseDecides}
use Rattle.mq_tree.specs.Trees.{ReadsAs}
use Rattle.mq_tree.specs.Volume.{Path, Volume}
use Rattle.mq_tree.specs.declared.request.Fault.{Fault}
use Rattle.mq_cli.specs.Asked.{Asked, audit, blocks, cat, check, dump, format, gen, help, loose, ls, recover, replicate, run, version}
use Rattle.mq_cli.specs.declared.command.RunFlags.{RunFlags}
use Rattle.mqfs.specs.Says.{numbers}

-- `format`: the numbers are a geometry, or one is out of its range
pub data NumbersDecide (n : Numbers) : ℕ → Type 0 where
  good_numbers : (g : Geometry) → numbers_of g ≡ n → NumbersDecide n 0
  bad_numbers : (e : GeometryRefusal) → RefusesNumbers n e → NumbersDecide n 3

-- the file is no image, or the image is not readable
pub data ImageDecides (image : List ℕ) (held : Option Held) : ℕ → Type 0 where
  no_image : (bytes : List ℕ) (e : FileFault) → Tells held image (Some bytes) → HasFault bytes (Some e)
      → ImageDecides image held 3
  unreadable : (bytes : List ℕ) (x : DriveImage) (e : ImageFault) → Tells held image (Some bytes)
      → IsRead x bytes → RefusesDrive x e → ImageDecides image held 3

-- the file is no image, or no volume stands on the image
pub data VolumeDecides (image : List ℕ) (held : Option Held) : ℕ → Type 0 where
  is_no_image : (bytes : List ℕ) (e : FileFault) → Tells held image (Some bytes)
      → HasFault bytes (Some e) → VolumeDecides image held 3
  none_stands : (bytes : List ℕ) (x : DriveImage) → Tells held image (Some bytes) → IsRead x bytes
      → HasNoVolume x → VolumeDecides image held 3

-- the name holds an image, and the others hold scripts, not more than the image has queues
pub record HasScripts (image : List ℕ) (names : List (List ℕ)) (held : Option Held)
    (x : DriveImage) : Type 0 where
  pub bytes : List ℕ
  pub tells : Tells held image (Some bytes)
  pub read : IsRead x bytes
  pub scripts : List Script
  pub hold : HoldScripts held names scripts
  pub few : length scripts ≤ queues_of x.geometry

-- the scripts are run, on the volume that stands: then the status is 0, or 5 where a command is to fail
pub record IsRunnable (image : List ℕ) (names : List (List ℕ)) (held : Option Held) : Type 0 where
  pub x : DriveImage
  pub volume : Volume
  pub scripts : HasScripts image names held x
  pub for : StandsFor x volume
  pub within : AreWithin x for.top

-- `run`: the file is no image; or a script is refused, or there are more scripts than queues; or no volume stands on the
-- image, or it is above the limit of a run; or the scripts are run, and no command is to fail
pub data RunDecides (image : List ℕ) (names : List (List ℕ)) (options : RunFlags)
    (held : Option Held) : ℕ
    → Type 0 where
  no_drive : (bytes : List ℕ) (e : FileFault) → Tells held image (Some bytes) → HasFault bytes (Some e)
      → RunDecides image names options held 3
  bad_script : (bytes : List ℕ) (x : DriveImage) → Tells held image (Some bytes) → IsRead x bytes
      → HoldBadScript held names → RunDecides image names options held 2
  too_many : (bytes : List ℕ) (x : DriveImage) (scripts : List Script) → Tells held image (Some bytes)
      → IsRead x bytes → HoldScripts held names scripts → queues_of x.geometry < length scripts
      → RunDecides image names options held 2
  no_volume_there : (x : DriveImage) → HasScripts image names held x → HasNoVolume x
      → RunDecides image names options held 3
  above_limit : (x : DriveImage) (ds : List Descriptor) (top n : ℕ) → HasScripts image names held x
      → Reads x ds top → IsFirstAbove x top n → RunDecides image names options held 3
  runs_whole : IsRunnable image names held → options.fail ≡ None → RunDecides image names options held 0

-- `recover` and `check`: the image is readable
pub data StandingDecides (image : List ℕ) (held : Option Held) : ℕ → Type 0 where
  has_standing : (bytes : List ℕ) (x : DriveImage) (ds : List Descriptor) (top : ℕ)
      → Tells held image (Some bytes) → IsRead x bytes → Reads x ds top → StandingDecides image held 0
  no_standing : {status : ℕ} → ImageDecides image held status → StandingDecides image held status

-- `ls`: a volume stands on the image, or none does
pub data TreeDecides (image : List ℕ) (held : Option Held) : ℕ → Type 0 where
  has_tree : (bytes : List ℕ) (x : DriveImage) (v : Volume) → Tells held image (Some bytes)
      → IsRead x bytes → StandsFor x v → TreeDecides image held 0
  no_tree : {status : ℕ} → VolumeDecides image held status → TreeDecides image held status

-- `cat`: the volume that stands has a file at the path, or none; or no volume stands
pub data FileDecides (image : List ℕ) (path : Path) (held : Option Held) : ℕ → Type 0 where
  has_file : (bytes : List ℕ) (x : DriveImage) (v : Volume) (content : List ℕ)
      → Tells held image (Some bytes) → IsRead x bytes → StandsFor x v → ReadsAs v path (Ok content)
      → FileDecides image path held 0
  has_no_file : (bytes : List ℕ) (x : DriveImage) (v : Volume) (fault : Fault)
      → Tells held image (Some bytes) → IsRead x bytes → StandsFor x v → ReadsAs v path (Err fault)
      → FileDecides image path held 3
  no_volume : {status : ℕ} → VolumeDecides image held status → FileDecides image path held status

-- `dump`: the chains of the image are whole
pub data ChainsDecide (image : List ℕ) (held : Option Held) : ℕ → Type 0 where
  has_chains : (bytes : List ℕ) (x : DriveImage) (chains : ℕ → List Descriptor)
      → Tells held image (Some bytes) → IsRead x bytes → AreWhole x.geometry (view_of x) chains
      → ChainsDecide image held 0
  no_chains : {status : ℕ} → ImageDecides image held status → ChainsDecide image held status

-- `audit`: the file holds a trace, or bytes of which a line is not in its form
pub data TraceDecides (trace : List ℕ) (held : Option Held) : ℕ → Type 0 where
  good_trace : (bytes : List ℕ) (t : Trace) → Tells held trace (Some bytes) → IsTrace bytes t
      → TraceDecides trace held 0
  bad_trace : (bytes : List ℕ) (line : ℕ) → Tells held trace (Some bytes) → IsMisread bytes line
      → TraceDecides trace held 2

abbrev pub Decides : Asked → Option Held → (status : ℕ) → Type 0
Decides (blocks file options save trace) held status = TextDecides file held status
Decides (format image queues area meta zone) held status =
    NumbersDecide (numbers queues area meta zone) status
Decides (run image scripts options) held status = RunDecides image scripts options held status
Decides (recover image cut pick) held status = StandingDecides image held status
Decides (ls image) held status = TreeDecides image held status
Decides (cat image path) held status = FileDecides image path held status
Decides (gen seed threads groups save) held status = status ≡ 0
Decides (dump image) held status = ChainsDecide image held status
Decides (check image) held status = StandingDecides image held status
Decides (audit trace) held status = TraceDecides trace held status
Decides (replicate file seed save) held status = TextDecides file held status
Decides (loose file cut pick save) held status = LooseDecides file held status
Decides (help topic) held status = status ≡ 0
Decides version held status = status ≡ 0

-- what is asked is a run, and its scripts are run
abbrev pub RunsThere : Asked → Option Held → Type 0
RunsThere (run image scripts options) held = IsRunnable image scripts held
RunsThere _ held = ⊥

-- what the files tell decides the status so; or a run is there, which ends with 0, or with 5 where its command
-- was to fail
abbrev pub IsCovered : Asked → Option Held → (status : ℕ) → Type 0
IsCovered a held status =
    Decides a held status ⊎ (RunsThere a held × ((status ≡ 0) ⊎ (status ≡ 5)))
