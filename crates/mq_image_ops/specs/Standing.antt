-- What an image stands for: the blocks of its prefix, and the volume on them; or why there is none.
use Rattle.std.specs.Prelude.{◌≡◌, ◌<◌, ℕ, List, length, Option, None}
use Rattle.mq_blocks.specs.Blocks.{block_at}
use Rattle.mq_blocks.specs.Descriptor.{Descriptor}
use Rattle.mq_blocks.specs.Drive.{FuseName}
use Rattle.mq_blocks.specs.Geometry.{homes_of}
use Rattle.mq_blocks.specs.Journal.{stands}
use Rattle.mq_image.specs.File.{DriveImage}
use Rattle.mq_image_ops.specs.Views.{drive_from, view_of}
use Rattle.mq_image_ops.specs.declared.refusal.StandingRefusal.{StandingRefusal}
use Rattle.mq_image_ops.specs.declared.refusal.StandingRefusal.TheVariants.{Image, Corrupt, OutOfMemory}
use Rattle.mq_recover.specs.Recovery.{IsReadPrefix}
use Rattle.mq_recover.specs.Images.{RefusesImage}
use Rattle.mq_recover.specs.declared.refusal.ImageFault.{ImageFault}
use Rattle.mq_tree.specs.Corrupt.{IsCorrupt}
use Rattle.mq_tree.specs.Laid.{IsLaid, map_of}
use Rattle.mq_tree.specs.Volume.{Volume}

-- the image is readable: these are the descriptors of its prefix, newest first, and this is the greatest
-- number that it shows
abbrev pub Reads : DriveImage → List Descriptor → ℕ → Type 0
Reads x ds top = IsReadPrefix x.geometry (view_of x) ds top

-- these home blocks, of which an absent one is zeros, are those that stand by these descriptors
pub record AreStanding (x : DriveImage) (ds : List Descriptor)
    (stored : List (Option (List ℕ))) : Type 0 where
  pub count : length stored ≡ homes_of x.geometry
  pub each : (b : ℕ) → b < homes_of x.geometry → block_at stored b ≡ stands x.geometry (view_of x) ds b

-- the image is readable, and these are the home blocks that stand
pub record IsStandingOf (x : DriveImage) (stored : List (Option (List ℕ))) : Type 0 where
  pub ds : List Descriptor
  pub top : ℕ
  pub read : Reads x ds top
  pub blocks : AreStanding x ds stored

-- the blocks that stand hold this volume
pub record StandsFor (x : DriveImage) (v : Volume) : Type 0 where
  pub ds : List Descriptor
  pub top : ℕ
  pub stored : List (Option (List ℕ))
  pub read : Reads x ds top
  pub standing : AreStanding x ds stored
  pub laid : IsLaid x.geometry (map_of x.geometry stored) v

-- The image is not readable, and this is the first cause in the order of the tests. It does not depend on
-- the power of the drive that starts from the image.
pub record RefusesDrive (x : DriveImage) (e : ImageFault) : Type 0 where
  pub fuse : FuseName
  pub refuses : RefusesImage x.geometry (drive_from fuse None x) e

-- the image is not readable; or the blocks that stand hold no volume, and this is wrong at this block
pub data RefusesVolume (x : DriveImage) : StandingRefusal → Type 0 where
  not_readable : (e : ImageFault) → RefusesDrive x e → RefusesVolume x (Image e)
  not_mounted : {cause : _} {b : ℕ} (ds : List Descriptor) (top : ℕ) (stored : List (Option (List ℕ)))
      → Reads x ds top → AreStanding x ds stored
      → ((v : Volume) → IsLaid x.geometry (map_of x.geometry stored) v → ⊥)
      → IsCorrupt x.geometry stored cause b → RefusesVolume x (Corrupt cause b)
  wanting : RefusesVolume x OutOfMemory

-- no volume stands on the image: it is not readable, or the blocks that stand hold none
pub data HasNoVolume (x : DriveImage) : Type 0 where
  unreadable : (e : ImageFault) → RefusesDrive x e → HasNoVolume x
  unmounted : (ds : List Descriptor) (top : ℕ) (stored : List (Option (List ℕ))) → Reads x ds top
      → AreStanding x ds stored → ((v : Volume) → IsLaid x.geometry (map_of x.geometry stored) v → ⊥)
      → HasNoVolume x
