-- `apply`: what it makes of the names of an image and of a file of groups, and what it says.
use Rattle.std.specs.Prelude.{◌≡◌, ◌≢◌, ℕ, List}
use Rattle.mq_command_images.specs.Commands.{RefusesName}
use Rattle.mq_command_images.specs.Lines.{drive_line}
use Rattle.mq_command_io.specs.Ending.{IsLoaded, IsNotLoaded, IsNotSaved, IsSaved, memory_line}
use Rattle.mq_image.specs.Drives.{IsRead}
use Rattle.mq_image.specs.File.{DriveImage, image_bytes}
use Rattle.mq_kv_buckets.specs.declared.operation.KvOp.{KvOp}
use Rattle.mq_kv_run.specs.Promise.{KeepsPromise}
use Rattle.mq_kv_run.specs.Refusals.{RefusesStore}
use Rattle.mq_kv_run.specs.Runs.{IsRunOf}
use Rattle.mq_kv_run.specs.declared.options.KvOptions.{KvOptions}
use Rattle.mq_kv_run.specs.declared.ran.KvRun.{KvRun}
use Rattle.mq_kv_run.specs.declared.refusal.KvRunRefusal.{KvRunRefusal}
use Rattle.mq_kv_run.specs.declared.refusal.KvRunRefusal.TheVariants as refusal
use Rattle.mq_kv_text.specs.Files.{IsFile, IsMisread}
use Rattle.mq_kv_text.specs.Reports.{bucket_text, misread_text, report_text}
use Rattle.mq_outside.specs.Outside.{FilesState}

-- ---- refusals

-- The name gives no groups: it is not loaded, or a line of its text is not in the form, and the first such is
-- named; or memory ran out.
pub data RefusesFile (name : List ℕ) (old new : FilesState) : (status : ℕ) → (text : List ℕ) → Type 0 where
  not_loaded : {status : ℕ} {text : List ℕ} → IsNotLoaded name old new status text
      → RefusesFile name old new status text
  misread : (bytes : List ℕ) (line : ℕ) → IsLoaded name bytes old new → IsMisread bytes line
      → RefusesFile name old new 2 (misread_text line)
  wanting : (bytes : List ℕ) → IsLoaded name bytes old new → RefusesFile name old new 6 memory_line

abbrev pub refusal_line : KvRunRefusal → List ℕ
refusal_line (refusal.Image fault) = drive_line fault
refusal_line (refusal.Bucket block offset) = bucket_text block offset
refusal_line refusal.OutOfMemory = memory_line

-- The groups are not run on the image: it is refused, and this is why; or memory ran out.
pub data RefusesRunning (x : DriveImage) : (status : ℕ) → (text : List ℕ) → Type 0 where
  not_run : (e : KvRunRefusal) → RefusesStore x e → e ≢ refusal.OutOfMemory
      → RefusesRunning x 3 (refusal_line e)
  wanting : RefusesRunning x 6 memory_line

-- ---- what there is to say

-- The name of the image held an image, and the other a file of groups. These were run on it, and this run keeps its
-- promise.
pub record IsApplied (o : KvOptions) (image file : List ℕ) (old mid read : FilesState)
    (r : KvRun) : Type 0 where
  pub bytes : List ℕ
  pub x : DriveImage
  pub words : List ℕ
  pub groups : List (List KvOp)
  pub image_loaded : IsLoaded image bytes old mid
  pub image_read : IsRead x bytes
  pub file_loaded : IsLoaded file words mid read
  pub file_read : IsFile words groups
  pub run : IsRunOf x groups o r
  pub promise : KeepsPromise x groups o r

-- The groups were run, the name of the image holds what that left, and the report is said. Or nothing was saved,
-- and why is said: of the image, then of the file, then of the run, and then of the save.
pub data Applies (o : KvOptions) (image file : List ℕ) (old new : FilesState) : (status : ℕ)
    → (text : List ℕ) → Type 0 where
  applied : (mid read : FilesState) (r : KvRun) → IsApplied o image file old mid read r
      → IsSaved image (image_bytes r.image) read new → Applies o image file old new 0 (report_text r.report)
  no_image : {status : ℕ} {text : List ℕ} → RefusesName image old new status text
      → Applies o image file old new status text
  no_file : {status : ℕ} {text : List ℕ} (bytes : List ℕ) (x : DriveImage) (mid : FilesState)
      → IsLoaded image bytes old mid → IsRead x bytes → RefusesFile file mid new status text
      → Applies o image file old new status text
  no_run : {status : ℕ} {text : List ℕ} (bytes : List ℕ) (x : DriveImage) (words : List ℕ)
      (groups : List (List KvOp)) (mid : FilesState)
      → IsLoaded image bytes old mid → IsRead x bytes → IsLoaded file words mid new → IsFile words groups
      → RefusesRunning x status text → Applies o image file old new status text
  unsaved : {status : ℕ} {text : List ℕ} (mid read : FilesState) (r : KvRun)
      → IsApplied o image file old mid read r → IsNotSaved image read new status text
      → Applies o image file old new status text
