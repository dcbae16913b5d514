-- What `run` makes of the name of an image and of the names of scripts, and what it says.
use Rattle.std.specs.Prelude.{◌≡◌, ◌≢◌, ◌⊎◌, ◌<◌, ◌≤◌, ◌||◌, ℕ, Bool, true, false, List, [], ◌∷◌, length, Option, Some, Result, Ok, Err, if◌then◌else◌}
use Rattle.mq_blocks.specs.Geometry.{queues_of}
use Rattle.mq_queue_side.specs.declared.answers.CallCause.{CallCause}
use Rattle.mq_queue_side.specs.declared.answers.CallCause.TheVariants as cause
use Rattle.mq_queue_side.specs.declared.answers.Refusal.{Refusal}
use Rattle.mq_command_images.specs.Commands.{RefusesName}
use Rattle.mq_command_images.specs.Lines.{volume_line}
use Rattle.mq_command_run.specs.Lines.{script_line, scripts_line}
use Rattle.mq_command_io.specs.Ending.{IsLoaded, IsNotLoaded, IsNotSaved, IsSaved, memory_line}
use Rattle.mq_image.specs.Drives.{IsRead}
use Rattle.mq_image.specs.File.{DriveImage, image_bytes}
use Rattle.mq_run_laws.specs.Refusals.{RefusesRun}
use Rattle.mq_run_laws.specs.Runs.{IsRunOf}
use Rattle.mq_run_laws.specs.declared.options.RunOptions.{RunOptions}
use Rattle.mq_run_laws.specs.declared.ran.ImageRun.{ImageRun}
use Rattle.mq_image_ops.specs.declared.refusal.StandingRefusal.{StandingRefusal}
use Rattle.mq_image_ops.specs.declared.refusal.StandingRefusal.TheVariants as standing
use Rattle.mq_outside.specs.Outside.{FilesState, Held, Tells}
use Rattle.mq_run_laws.specs.Images.{KeepsPromise}
use Rattle.mq_report.specs.Reports.{IsReport, MayBeReported}
use Rattle.mq_report.specs.Texts.{report_lines, spelled}
use Rattle.mq_report.specs.declared.line.Told.{Told}
use Rattle.mq_script.specs.Answers.{Refused}
use Rattle.mq_script.specs.Reading.{script_in}
use Rattle.mq_script.specs.Scripts.{Script}
use Rattle.mq_script.specs.Spelled.{Spells}

-- ---- scripts

-- the text is read as the script, and spells it
pub record IsScriptIn (text : List ℕ) (script : Script) : Type 0 where
  pub read : script_in text ≡ Ok script
  pub spells : Spells text script

-- each name gave the text of the script of its place, one after another
abbrev pub AreLoaded : (names : List (List ℕ)) → List Script → (old new : FilesState) → Type 0
AreLoaded [] [] old new = new ≡ old
AreLoaded [] (script ∷ scripts) old new = ⊥
AreLoaded (name ∷ names) [] old new = ⊥
AreLoaded (name ∷ names) (script ∷ scripts) old new =
    (text : List ℕ) × (mid : FilesState) × IsLoaded name text old mid × IsScriptIn text script
    × AreLoaded names scripts mid new

-- a name gives no script: it is not loaded, or its text is refused at a line, or memory ran out
pub data RefusesScript (name : List ℕ) (old new : FilesState) : (status : ℕ) → (text : List ℕ)
    → Type 0 where
  not_loaded : {status : ℕ} {text : List ℕ} → IsNotLoaded name old new status text
      → RefusesScript name old new status text
  refused : (bytes : List ℕ) (at : Refused) → IsLoaded name bytes old new → script_in bytes ≡ Err at
      → RefusesScript name old new 2 (script_line name at.line at.cause)
  wanting : (bytes : List ℕ) → IsLoaded name bytes old new → RefusesScript name old new 6 memory_line

-- the first of these names that gives no script
abbrev pub RefusesScripts : (names : List (List ℕ)) → (old new : FilesState) → (status : ℕ)
    → (text : List ℕ) → Type 0
RefusesScripts [] old new status text = ⊥
RefusesScripts (name ∷ names) old new status text =
    RefusesScript name old new status text
    ⊎ ((words : List ℕ) × (script : Script) × (mid : FilesState) × IsLoaded name words old mid
    × IsScriptIn words script × RefusesScripts names mid new status text)

-- ---- runs

-- The scripts are not run on the image: there are more than it has queues; or the image is refused, and
-- this is why; or memory ran out.
pub data RefusesRunning (x : DriveImage) (scripts : List Script) : (status : ℕ) → (text : List ℕ)
    → Type 0 where
  too_many : queues_of x.geometry < length scripts
      → RefusesRunning x scripts 2 (scripts_line (length scripts) (queues_of x.geometry))
  not_run : (e : StandingRefusal) → length scripts ≤ queues_of x.geometry → RefusesRun x e
      → e ≢ standing.OutOfMemory → RefusesRunning x scripts 3 (volume_line e)
  wanting : RefusesRunning x scripts 6 memory_line

abbrev pub is_memory : CallCause → Bool
is_memory cause.OutOfMemory = true
is_memory (cause.TooLarge count limit) = false
is_memory (cause.Changes index) = false
is_memory (cause.Drive why) = false

-- memory ran out for a group
abbrev pub is_wanting : Result ℕ Refusal → Bool
is_wanting (Ok number) = false
is_wanting (Err refusal) = is_memory refusal.cause

-- memory ran out for one of the groups
abbrev pub are_wanting : List Told → Bool
are_wanting [] = false
are_wanting (told ∷ answers) = is_wanting told.answer || are_wanting answers

-- 6 where memory ran out for a group; else 5 where the command that was to fail was executed
abbrev pub run_status : ImageRun → ℕ
run_status r = if are_wanting r.answers.items then 6 else if r.failed then 5 else 0

-- the report
abbrev pub run_text : ImageRun → List ℕ
run_text r = spelled (report_lines r.base r.entries.items r.answers.items r.last)

-- the text is the report of what a run left, of which there is one reading
abbrev pub IsReportOf : ImageRun → (text : List ℕ) → Type 0
IsReportOf r text = IsReport text r.base r.entries.items r.answers.items r.last

-- the file of what a run left, and what is said of it, with its status
pub record IsRunFile (r : ImageRun) (file : List ℕ) (status : ℕ) (text : List ℕ) : Type 0 where
  pub file_is : file ≡ image_bytes r.image
  pub status_is : status ≡ run_status r
  pub text_is : text ≡ run_text r
  pub report : MayBeReported r.entries.items r.answers.items → IsReportOf r text

-- the same of a run of these scripts on this image, which has a queue for each
abbrev pub IsRunAs : DriveImage → List Script → RunOptions → (file : List ℕ) → (status : ℕ)
    → (text : List ℕ) → Type 0
IsRunAs x scripts o file status text =
    (r : ImageRun) × (length scripts ≤ queues_of x.geometry) × IsRunOf x scripts o r
    × IsRunFile r file status text

-- ---- what there is to say

-- The image that the name held was recovered, the scripts that the other names held were run on it, and the
-- name holds what that left. What is reported of it is a legal list with the answers of its lines, of which
-- the text is the report, and what the name holds is a cut of this history. Or nothing was saved, and why is said: of the image, then of the
-- scripts in order, then of their run, and then of the save.
pub data Runs (o : RunOptions) (name : List ℕ) (names : List (List ℕ))
    (old new : FilesState) : (status : ℕ)
    → (text : List ℕ) → Type 0 where
  ran : (bytes : List ℕ) (x : DriveImage) (scripts : List Script) (r : ImageRun) (mid read : FilesState)
      → IsLoaded name bytes old mid → IsRead x bytes → AreLoaded names scripts mid read
      → length scripts ≤ queues_of x.geometry → IsRunOf x scripts o r → KeepsPromise x scripts o r
      → IsReportOf r (run_text r) → IsSaved name (image_bytes r.image) read new
      → Runs o name names old new (run_status r) (run_text r)
  no_image : {status : ℕ} {text : List ℕ} → RefusesName name old new status text
      → Runs o name names old new status text
  no_scripts : {status : ℕ} {text : List ℕ} (bytes : List ℕ) (x : DriveImage) (mid : FilesState)
      → IsLoaded name bytes old mid → IsRead x bytes → RefusesScripts names mid new status text
      → Runs o name names old new status text
  no_run : {status : ℕ} {text : List ℕ} (bytes : List ℕ) (x : DriveImage) (scripts : List Script)
      (mid : FilesState)
      → IsLoaded name bytes old mid → IsRead x bytes → AreLoaded names scripts mid new
      → RefusesRunning x scripts status text → Runs o name names old new status text
  unsaved : {status : ℕ} {text : List ℕ} (bytes : List ℕ) (x : DriveImage) (scripts : List Script)
      (r : ImageRun) (mid read : FilesState)
      → IsLoaded name bytes old mid → IsRead x bytes → AreLoaded names scripts mid read
      → length scripts ≤ queues_of x.geometry → IsRunOf x scripts o r → KeepsPromise x scripts o r
      → IsNotSaved name read new status text → Runs o name names old new status text

-- ---- what files show of scripts

-- these names hold the texts of these scripts
abbrev pub HoldScripts : Option Held → (names : List (List ℕ)) → List Script → Type 0
HoldScripts held [] [] = Unit {0}
HoldScripts held [] (script ∷ scripts) = ⊥
HoldScripts held (name ∷ names) [] = ⊥
HoldScripts held (name ∷ names) (script ∷ scripts) =
    (text : List ℕ) × Tells held name (Some text) × (script_in text ≡ Ok script)
    × HoldScripts held names scripts

-- one of these names holds a text that is refused, and those before it hold scripts
abbrev pub HoldBadScript : Option Held → (names : List (List ℕ)) → Type 0
HoldBadScript held [] = ⊥
HoldBadScript held (name ∷ names) =
    (text : List ℕ) × Tells held name (Some text)
    × (((at : Refused) × (script_in text ≡ Err at))
    ⊎ ((script : Script) × (script_in text ≡ Ok script) × HoldBadScript held names))
