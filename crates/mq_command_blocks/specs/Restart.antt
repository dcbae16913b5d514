-- What stands on an image that a cut left.
use Rattle.std.specs.Prelude.{◌≡◌, ℕ, List, length, Option}
use Rattle.mq_blocks.specs.Descriptor.{Descriptor}
use Rattle.mq_image.specs.File.{DriveImage}
use Rattle.mq_image_ops.specs.Standing.{AreStanding, Reads}

-- so many transactions stand on the image, which is readable, and these are the home blocks that stand
pub record StandsOn (x : DriveImage) (prefix : ℕ) (stored : List (Option (List ℕ))) : Type 0 where
  pub ds : List Descriptor
  pub top : ℕ
  pub read : Reads x ds top
  pub prefix_is : prefix ≡ length ds
  pub blocks : AreStanding x ds stored
