-- What stands on the home blocks of a drive.
use Rattle.std.specs.Prelude.{◌≡◌, ◌<◌, ℕ, List, length}
use Rattle.mq_blocks.specs.Blocks.{block_at}
use Rattle.mq_blocks.specs.Descriptor.{Descriptor}
use Rattle.mq_blocks.specs.Geometry.{homes_of}
use Rattle.mq_blocks.specs.Journal.{stands}
use Rattle.mq_blocks.specs.declared.geometry.Geometry.{Geometry}
use Rattle.mq_recover.specs.Drives.{DriveState, view_over}
use Rattle.mq_recover.specs.Recovery.{IsReadPrefix}
use Rattle.mq_recover.specs.declared.choice.Recovered.{Recovered}
use Rattle.mq_recover.specs.declared.standing.Standing.{Standing}

-- each home block is what stands by these descriptors, whose count is the prefix, and the base and
-- the top are the image's
pub record IsStanding (g : Geometry) (d : DriveState) (ds : List Descriptor) (top : ℕ)
    (s : Standing) : Type 0 where
  pub whole : length s.blocks.items ≡ homes_of g
  pub blocks_are : (b : ℕ) → b < homes_of g → block_at s.blocks.items b ≡ stands g (view_over g d) ds b
  pub prefix_is : s.prefix ≡ length ds
  pub base_is : s.base ≡ d.root.base
  pub top_is : s.top ≡ top

-- the image is readable, and this is what stands
abbrev pub StandsIn : Geometry → DriveState → Standing → Type 0
StandsIn g d s =
    (ds : List Descriptor) × (top : ℕ) × IsReadPrefix g (view_over g d) ds top × IsStanding g d ds top s

-- the image is readable, the prefix is the count of the descriptors that stand, and the new base is the
-- greatest number that the image shows
pub record Finds (g : Geometry) (d : DriveState) (r : Recovered) : Type 0 where
  pub ds : List Descriptor
  pub read : IsReadPrefix g (view_over g d) ds r.base
  pub prefix_is : r.prefix ≡ length ds
