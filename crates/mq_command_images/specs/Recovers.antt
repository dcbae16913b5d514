-- What `recover` makes of a name, and what it says.
use Rattle.std.specs.Prelude.{◌≡◌, ℕ, List, [], ◌++◌, Option, Some, None, codes}
use Rattle.std.specs.Fmt.{decimal}
use Rattle.mq_command_images.specs.Commands.{SaysOfImage}
use Rattle.mq_command_images.specs.Lines.{drive_line}
use Rattle.mq_command_io.specs.Ending.{IsLoaded, IsNotSaved, IsSaved, SaysOf}
use Rattle.mq_image.specs.Drives.{IsRead}
use Rattle.mq_image.specs.File.{DriveImage, image_bytes}
use Rattle.mq_image_laws.specs.Rest.{LeavesRest}
use Rattle.mq_image_ops.specs.Cuts.{IsPickedRecovery}
use Rattle.mq_image_ops.specs.Dump.{base_line, prefix_line}
use Rattle.mq_image_ops.specs.Recovering.{IsRecoveryOf}
use Rattle.mq_image_ops.specs.Standing.{RefusesDrive}
use Rattle.mq_image_ops.specs.declared.recovery.RecoveredImage.{RecoveredImage}
use Rattle.mq_outside.specs.Outside.{FilesState}
use Rattle.mq_recover.specs.declared.refusal.ImageFault.{ImageFault}

-- where the power went off, after how many events
abbrev pub cut_line : Option ℕ → List ℕ
cut_line None = []
cut_line (Some k) = codes "cut " ++ (decimal k ++ codes "\n")

-- how many transactions stood above the old base, the new base, and the cut
abbrev pub recovered_text : RecoveredImage → List ℕ
recovered_text r = prefix_line r.found.prefix ++ (base_line r.found.base ++ cut_line r.cut)

-- the file of what a recovery left, and what is said of it
abbrev pub IsRecoveryFile : RecoveredImage → (file text : List ℕ) → Type 0
IsRecoveryFile r file text = (file ≡ image_bytes r.image) × (text ≡ recovered_text r)

-- The image was recovered with power for `limit` events, if that is given, and this is left of it: the
-- image that the pick chose, with all that a recovery does not write as it was.
pub record IsRecoveredBy (x : DriveImage) (limit : Option ℕ) (pick : ℕ) (r : RecoveredImage) : Type 0 where
  pub recovery : IsRecoveryOf x limit r
  pub chosen : IsPickedRecovery x limit pick r
  pub rest : LeavesRest x recovery.writes r.image

-- the file of what that left, and what is said of it
abbrev pub IsRecoveredAs : DriveImage → (limit : Option ℕ) → (pick : ℕ) → (file text : List ℕ) → Type 0
IsRecoveredAs x limit pick file text =
    (r : RecoveredImage) × IsRecoveredBy x limit pick r × IsRecoveryFile r file text

-- the image is not readable
pub data RefusesRecovery (x : DriveImage) : (status : ℕ) → (text : List ℕ) → Type 0 where
  not_recovered : (e : ImageFault) → RefusesDrive x e → RefusesRecovery x 3 (drive_line e)

-- The image that the name held was recovered with power for `limit` events, if that is given, and the name
-- holds what that left by the pick; or nothing was saved, and the reason is printed.
pub data Recovers (limit : Option ℕ) (pick : ℕ) (name : List ℕ) (old new : FilesState) : (status : ℕ)
    → (text : List ℕ) → Type 0 where
  recovered : (bytes : List ℕ) (x : DriveImage) (r : RecoveredImage) (mid : FilesState)
      → IsLoaded name bytes old mid → IsRead x bytes → IsRecoveredBy x limit pick r
      → IsSaved name (image_bytes r.image) mid new → Recovers limit pick name old new 0 (recovered_text r)
  refused : {status : ℕ} {text : List ℕ} → SaysOf (SaysOfImage RefusesRecovery) name old new status text
      → Recovers limit pick name old new status text
  unsaved : {status : ℕ} {text : List ℕ} (bytes : List ℕ) (mid : FilesState)
      → IsLoaded name bytes old mid → IsNotSaved name mid new status text
      → Recovers limit pick name old new status text
