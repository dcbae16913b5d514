-- What `check` says of an image, and with which status it ends.
use Rattle.std.proofs.Common.{◌≡◌, ℕ, List, Option, Some, refl, subst}
use Rattle.std.specs.Prelude.{Result, Ok, Err, IfOk}
use Rattle.mq_blocks.specs.Descriptor.{Descriptor}
use Rattle.mq_blocks.specs.declared.geometry.Geometry.{Geometry}
use Rattle.mq_check.specs.Verdicts.{Judges}
use Rattle.mq_check.specs.declared.verdict.Verdict.{Verdict}
use Rattle.mq_command_images.specs.Checks.{Checks, checked, not_checked, verdict_line}
use Rattle.mq_command_images.specs.Commands.{SaysOfImage}
use Rattle.mq_command_images.proofs.CommandsExact.{Ends, image-where}
use Rattle.mq_command_images.proofs.CommandsSaying.{said-as}
use Rattle.mq_command_io.specs.Ending.{IsUnlessFailed}
use Rattle.mq_image.specs.Drives.{IsRead}
use Rattle.mq_image.specs.File.{DriveImage}
use Rattle.mq_image_ops.specs.Standing.{IsStandingOf, Reads, RefusesDrive}
use Rattle.mq_image_ops.proofs.Standing.{read-refused}
use Rattle.mq_outside.specs.Outside.{FilesState, SinkState, Tells}
use Rattle.mq_recover.specs.declared.refusal.ImageFault.{ImageFault}

-- a verdict that is right on the blocks that stand is said with its line
pub checks-as : {A E : Type 0} (stat : A → ℕ) (words : A → List ℕ) (x : DriveImage) (g : Geometry) (stored : List (Option (List ℕ))) (r : Result A E)
    → g ≡ x.geometry → IsStandingOf x stored → IfOk r (λ a. (verdict : Verdict) × Judges g stored verdict × (stat a ≡ 0) × (words a ≡ verdict_line verdict)) → IfOk r (λ a. Checks x (stat a) (words a))
checks-as stat words x g stored (Ok a) same stands is =
    said-as (Checks x) 0 (stat a) (verdict_line is.0) (words a) is.2 is.3 (checked stored is.0 stands (subst (λ (h : Geometry). Judges h stored is.0) same is.1))
checks-as stat words x g stored (Err e) same stands is = tt

checks-done : (x : DriveImage) (ds : List Descriptor) (top : ℕ) → Reads x ds top → (s : ℕ) (t : List ℕ) → Checks x s t → s ≡ 0
checks-done x ds top reads _ _ (checked stored verdict stands judges) = refl
checks-done x ds top reads _ _ (not_checked e refuses) = absurd (read-refused x ds top e reads refuses)

checks-refused : (x : DriveImage) (e : ImageFault) → RefusesDrive x e → (s : ℕ) (t : List ℕ) → Checks x s t → s ≡ 3
checks-refused x e refuses _ _ (checked stored verdict stands judges) = absurd (read-refused x stands.ds stands.top e stands.read refuses)
checks-refused x e refuses _ _ (not_checked f other) = refl

-- a readable image has a verdict
pub checked-where : (name bytes : List ℕ) (x : DriveImage) (ds : List Descriptor) (top : ℕ) (old new : FilesState) (before after : SinkState) (result : ℕ) → Ends (SaysOfImage Checks) name old new before after result → Tells old.contents name (Some bytes) → IsRead x bytes → Reads x ds top → IsUnlessFailed 0 result
checked-where name bytes x ds top old new before after result ends tells read reads = image-where Checks name bytes x 0 old new before after result ends tells read (checks-done x ds top reads)

-- and one that is not readable has none
pub unchecked-where : (name bytes : List ℕ) (x : DriveImage) (e : ImageFault) (old new : FilesState) (before after : SinkState) (result : ℕ) → Ends (SaysOfImage Checks) name old new before after result → Tells old.contents name (Some bytes) → IsRead x bytes → RefusesDrive x e → IsUnlessFailed 3 result
unchecked-where name bytes x e old new before after result ends tells read refuses = image-where Checks name bytes x 3 old new before after result ends tells read (checks-refused x e refuses)
