-- Why an image is not run.
use Rattle.std.specs.Prelude.{ℕ, List, Option}
use Rattle.mq_blocks.specs.Descriptor.{Descriptor}
use Rattle.mq_image.specs.File.{DriveImage}
use Rattle.mq_image_ops.specs.Refusals.{refusal_for}
use Rattle.mq_image_ops.specs.Standing.{AreStanding, Reads, RefusesDrive}
use Rattle.mq_image_ops.specs.declared.refusal.StandingRefusal.{StandingRefusal}
use Rattle.mq_image_ops.specs.declared.refusal.StandingRefusal.TheVariants.{Corrupt, Image, OutOfMemory}
use Rattle.mq_recover.specs.declared.refusal.ImageFault.{ImageFault}
use Rattle.mq_recover.specs.declared.refusal.ImageFault.TheVariants.{Limit}
use Rattle.mq_tree.specs.Corrupt.{IsCorrupt}
use Rattle.mq_tree.specs.Laid.{IsLaid, map_of}
use Rattle.mq_tree.specs.Volume.{Volume}
use Rattle.mq_image_run.specs.Limits.{AreWithin, IsFirstAbove}
use Rattle.mq_image_run.specs.declared.unplayed.Unplayed.{Unplayed}
use Rattle.mq_image_run.specs.declared.unplayed.Unplayed.TheVariants as unplayed

-- The image is not readable, and this is the first cause; or its greatest number or a doorbell is above the
-- limit of a run; or the blocks that stand hold no volume, and this is wrong at this block; or memory ran
-- out, which is also the refusal if a script has too many groups or requests to be counted in 32 bits.
pub data RefusesRun (x : DriveImage) : StandingRefusal → Type 0 where
  not_readable : (e : ImageFault) → RefusesDrive x e → RefusesRun x (Image e)
  above_limit : {n : ℕ} (ds : List Descriptor) (top : ℕ) → Reads x ds top → IsFirstAbove x top n
      → RefusesRun x (Image (Limit n))
  not_mounted : {cause : _} {b : ℕ} (ds : List Descriptor) (top : ℕ) (stored : List (Option (List ℕ)))
      → Reads x ds top → AreWithin x top → AreStanding x ds stored
      → ((v : Volume) → IsLaid x.geometry (map_of x.geometry stored) v → ⊥)
      → IsCorrupt x.geometry stored cause b → RefusesRun x (Corrupt cause b)
  wanting : RefusesRun x OutOfMemory

-- why no script is played on an image, as a refusal of a run
abbrev pub refusal_from : Unplayed StandingRefusal → StandingRefusal
refusal_from (unplayed.Image e) = refusal_for e
refusal_from (unplayed.Refused e) = e
