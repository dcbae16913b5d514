-- What the files hold decides the status of each command.
use Rattle.std.proofs.Common.{◌≡◌, ◌≢◌, ◌⊎◌, inl, inr, ap, ◌<◌, ◌≤◌, length, ℕ, List, Option, Some, None, Ok, Err, ◌∙◌}
use Rattle.std.specs.Prelude.{option_map}
use Rattle.mq_audit.specs.Traces.{IsMisread, IsTrace, Trace}
use Rattle.mq_blocks.specs.Descriptor.{Descriptor}
use Rattle.mq_blocks.specs.Geometry.{queues_of}
use Rattle.mq_blocks.specs.Journal.{AreWhole}
use Rattle.mq_blocks.specs.declared.geometry.Geometry.{Geometry}
use Rattle.mq_blocks.specs.declared.geometry.GeometryRefusal.{GeometryRefusal}
use Rattle.mq_command_images.specs.Commands.{RefusesNumbers, numbers_of}
use Rattle.mq_command_run.specs.RunsScripts.{HoldBadScript, HoldScripts}
use Rattle.mq_command_images.specs.declared.formatting.Numbers.{Numbers}
use Rattle.mq_command_io.specs.Ending.{IsUnlessFailed}
use Rattle.mq_image.specs.Drives.{IsRead}
use Rattle.mq_image.specs.Faults.{HasFault}
use Rattle.mq_image.specs.File.{DriveImage}
use Rattle.mq_image.specs.declared.fault.FileFault.{FileFault}
use Rattle.mq_image_run.specs.Limits.{AreWithin, IsFirstAbove}
use Rattle.mq_run_laws.specs.declared.options.RunOptions.{RunOptions}
use Rattle.mq_image_ops.specs.Standing.{HasNoVolume, Reads, RefusesDrive, StandsFor}
use Rattle.mq_image_ops.specs.Views.{view_of}
use Rattle.mq_outside.specs.Outside.{Held, Tells}
use Rattle.mq_recover.specs.declared.refusal.ImageFault.{ImageFault}
use Rattle.mq_script.specs.Scripts.{Script}
use Rattle.mq_tree.specs.Trees.{ReadsAs}
use Rattle.mq_tree.specs.Volume.{Path, Volume}
use Rattle.mq_tree.specs.declared.request.Fault.{Fault}
use Rattle.mq_cli.specs.declared.command.RunFlags.{RunFlags}
use Rattle.mqfs.specs.Decided.{ChainsDecide, FileDecides, ImageDecides, IsRunnable, NumbersDecide, RunDecides, StandingDecides, TraceDecides, TreeDecides, VolumeDecides, above_limit, bad_numbers, bad_script, bad_trace, good_numbers, good_trace, has_chains, has_file, has_no_file, has_standing, has_tree, is_no_image, no_chains, no_drive, no_image, no_standing, no_tree, no_volume, no_volume_there, none_stands, runs_whole, too_many, unreadable}
use Rattle.mqfs.specs.Says.{failing, run_options}

-- ---- `format`

pub numbers_decided : (n : Numbers) (result : ℕ) → ((g : Geometry) → numbers_of g ≡ n → IsUnlessFailed 0 result) → ((e : GeometryRefusal) → RefusesNumbers n e → IsUnlessFailed 3 result)
    → (status : ℕ) → NumbersDecide n status → IsUnlessFailed status result
numbers_decided n result done bad _ (good_numbers g are) = done g are
numbers_decided n result done bad _ (bad_numbers e refuses) = bad e refuses

-- ---- the commands that load an image

module _ (image : List ℕ) (held : Option Held) (result : ℕ)
    (faulty : (bytes : List ℕ) (e : FileFault) → Tells held image (Some bytes) → HasFault bytes (Some e) → IsUnlessFailed 3 result)
    (unread : (bytes : List ℕ) (x : DriveImage) (e : ImageFault) → Tells held image (Some bytes) → IsRead x bytes → RefusesDrive x e → IsUnlessFailed 3 result) where
  image_decided : (status : ℕ) → ImageDecides image held status → IsUnlessFailed status result
  image_decided _ (no_image bytes e tells has) = faulty bytes e tells has
  image_decided _ (unreadable bytes x e tells read refuses) = unread bytes x e tells read refuses

  pub standing_decided : ((bytes : List ℕ) (x : DriveImage) (ds : List Descriptor) (top : ℕ) → Tells held image (Some bytes) → IsRead x bytes → Reads x ds top → IsUnlessFailed 0 result)
      → (status : ℕ) → StandingDecides image held status → IsUnlessFailed status result
  standing_decided done _ (has_standing bytes x ds top tells read reads) = done bytes x ds top tells read reads
  standing_decided done status (no_standing image) = image_decided status image

  pub chains_decided : ((bytes : List ℕ) (x : DriveImage) (chains : ℕ → List Descriptor) → Tells held image (Some bytes) → IsRead x bytes → AreWhole x.geometry (view_of x) chains → IsUnlessFailed 0 result)
      → (status : ℕ) → ChainsDecide image held status → IsUnlessFailed status result
  chains_decided done _ (has_chains bytes x chains tells read whole) = done bytes x chains tells read whole
  chains_decided done status (no_chains image) = image_decided status image

module _ (image : List ℕ) (held : Option Held) (result : ℕ)
    (faulty : (bytes : List ℕ) (e : FileFault) → Tells held image (Some bytes) → HasFault bytes (Some e) → IsUnlessFailed 3 result)
    (none_there : (bytes : List ℕ) (x : DriveImage) → Tells held image (Some bytes) → IsRead x bytes → HasNoVolume x → IsUnlessFailed 3 result) where
  volume_decided : (status : ℕ) → VolumeDecides image held status → IsUnlessFailed status result
  volume_decided _ (is_no_image bytes e tells has) = faulty bytes e tells has
  volume_decided _ (none_stands bytes x tells read none) = none_there bytes x tells read none

  pub tree_decided : ((bytes : List ℕ) (x : DriveImage) (v : Volume) → Tells held image (Some bytes) → IsRead x bytes → StandsFor x v → IsUnlessFailed 0 result)
      → (status : ℕ) → TreeDecides image held status → IsUnlessFailed status result
  tree_decided done _ (has_tree bytes x v tells read for) = done bytes x v tells read for
  tree_decided done status (no_tree image) = volume_decided status image

  pub file_decided : (path : Path) → ((bytes : List ℕ) (x : DriveImage) (v : Volume) (content : List ℕ) → Tells held image (Some bytes) → IsRead x bytes → StandsFor x v → ReadsAs v path (Ok content) → IsUnlessFailed 0 result)
      → ((bytes : List ℕ) (x : DriveImage) (v : Volume) (fault : Fault) → Tells held image (Some bytes) → IsRead x bytes → StandsFor x v → ReadsAs v path (Err fault) → IsUnlessFailed 3 result)
      → (status : ℕ) → FileDecides image path held status → IsUnlessFailed status result
  file_decided path done none _ (has_file bytes x v content tells read for reads) = done bytes x v content tells read for reads
  file_decided path done none _ (has_no_file bytes x v fault tells read for reads) = none bytes x v fault tells read for reads
  file_decided path done none status (no_volume image) = volume_decided status image

-- ---- `audit`

pub trace_decided : (trace : List ℕ) (held : Option Held) (result : ℕ) → ((bytes : List ℕ) (t : Trace) → Tells held trace (Some bytes) → IsTrace bytes t → IsUnlessFailed 0 result)
    → ((bytes : List ℕ) (line : ℕ) → Tells held trace (Some bytes) → IsMisread bytes line → IsUnlessFailed 2 result) → (status : ℕ) → TraceDecides trace held status → IsUnlessFailed status result
trace_decided trace held result done bad _ (good_trace bytes t tells is) = done bytes t tells is
trace_decided trace held result done bad _ (bad_trace bytes line tells is) = bad bytes line tells is

-- ---- `run`

-- the command that is to fail, as the run has it
none-to-fail : (o : RunOptions) (options : RunFlags) → o ≡ run_options options → options.fail ≡ None → o.fail ≡ None
none-to-fail o options same none = ap (λ (p : RunOptions). p.fail) same ∙ ap (option_map failing) none

module _ (image : List ℕ) (names : List (List ℕ)) (options : RunFlags) (o : RunOptions) (same : o ≡ run_options options) (held : Option Held) (result : ℕ)
    (done : (bytes : List ℕ) (x : DriveImage) (v : Volume) (scripts : List Script) → Tells held image (Some bytes) → IsRead x bytes → HoldScripts held names scripts → length scripts ≤ queues_of x.geometry → (for : StandsFor x v) → AreWithin x for.top → ((o.fail ≢ None) × (result ≡ 5)) ⊎ IsUnlessFailed 0 result) where
  runs_or_fails : IsRunnable image names held → ((o.fail ≢ None) × (result ≡ 5)) ⊎ IsUnlessFailed 0 result
  runs_or_fails runs = let has = runs.scripts in done has.bytes runs.x runs.volume has.scripts has.tells has.read has.hold has.few runs.for runs.within

  pub run_decided :
      (faulty : (bytes : List ℕ) (e : FileFault) → Tells held image (Some bytes) → HasFault bytes (Some e) → IsUnlessFailed 3 result)
      (bad : (bytes : List ℕ) (x : DriveImage) → Tells held image (Some bytes) → IsRead x bytes → HoldBadScript held names → IsUnlessFailed 2 result)
      (many : (bytes : List ℕ) (x : DriveImage) (scripts : List Script) → Tells held image (Some bytes) → IsRead x bytes → HoldScripts held names scripts → queues_of x.geometry < length scripts → IsUnlessFailed 2 result)
      (none_there : (bytes : List ℕ) (x : DriveImage) (scripts : List Script) → Tells held image (Some bytes) → IsRead x bytes → HoldScripts held names scripts → length scripts ≤ queues_of x.geometry → HasNoVolume x → IsUnlessFailed 3 result)
      (above : (bytes : List ℕ) (x : DriveImage) (scripts : List Script) (ds : List Descriptor) (top n : ℕ) → Tells held image (Some bytes) → IsRead x bytes → HoldScripts held names scripts → length scripts ≤ queues_of x.geometry → Reads x ds top → IsFirstAbove x top n → IsUnlessFailed 3 result)
      (status : ℕ) → RunDecides image names options held status → IsUnlessFailed status result
  run_decided faulty bad many none_there above _ (no_drive bytes e tells has) = faulty bytes e tells has
  run_decided faulty bad many none_there above _ (bad_script bytes x tells read hold) = bad bytes x tells read hold
  run_decided faulty bad many none_there above _ (too_many bytes x scripts tells read hold more) = many bytes x scripts tells read hold more
  run_decided faulty bad many none_there above _ (no_volume_there x has none) = none_there has.bytes x has.scripts has.tells has.read has.hold has.few none
  run_decided faulty bad many none_there above _ (above_limit x ds top n has reads first) = above has.bytes x has.scripts ds top n has.tells has.read has.hold has.few reads first
  run_decided faulty bad many none_there above _ (runs_whole runs none) = elim (runs_or_fails runs) [ inl fails ↦ absurd (fails.0 (none-to-fail o options same none)) | inr ends ↦ ends ]

  pub run_runs : IsRunnable image names held → (result ≡ 5) ⊎ IsUnlessFailed 0 result
  run_runs runs = elim (runs_or_fails runs) [ inl fails ↦ inl fails.1 | inr ends ↦ inr ends ]
