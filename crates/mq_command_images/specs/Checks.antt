-- What there is to say of an image to `check`, and with which status.
use Rattle.std.specs.Prelude.{ℕ, List, ◌++◌, Option, codes}
use Rattle.std.specs.Fmt.{decimal}
use Rattle.mq_check.specs.Verdicts.{Judges}
use Rattle.mq_check.specs.declared.verdict.Verdict.{Verdict}
use Rattle.mq_check.specs.declared.verdict.Verdict.TheVariants.{Sound, Unsound}
use Rattle.mq_command_images.specs.Lines.{drive_line}
use Rattle.mq_command_images.specs.Names.{corrupt_name}
use Rattle.mq_image.specs.File.{DriveImage}
use Rattle.mq_image_ops.specs.Standing.{IsStandingOf, RefusesDrive}
use Rattle.mq_recover.specs.declared.refusal.ImageFault.{ImageFault}

-- the line of a verdict
abbrev pub verdict_line : Verdict → List ℕ
verdict_line (Sound dirs files blocks) =
    codes "sound dirs "
    ++ (decimal dirs
    ++ (codes " files " ++ (decimal files ++ (codes " blocks " ++ (decimal blocks ++ codes "\n")))))
verdict_line (Unsound phase cause b) =
    codes "unsound "
    ++ (decimal phase
    ++ (codes " " ++ (corrupt_name cause ++ (codes " block " ++ (decimal b ++ codes "\n")))))

-- `check`: the verdict that is right on the home blocks that stand, whether a tree lies on them or not; or
-- why the image is not readable
pub data Checks (x : DriveImage) : (status : ℕ) → (text : List ℕ) → Type 0 where
  checked : (stored : List (Option (List ℕ))) (verdict : Verdict) → IsStandingOf x stored
      → Judges x.geometry stored verdict → Checks x 0 (verdict_line verdict)
  not_checked : (e : ImageFault) → RefusesDrive x e → Checks x 3 (drive_line e)
