-- What every image that a power cut may leave of a drive stands for.
use Rattle.std.specs.Prelude.{◌⊎◌, List, map}
use Rattle.mq_blocks.specs.Descriptor.{Descriptor}
use Rattle.mq_blocks.specs.Drive.{image_of}
use Rattle.mq_blocks.specs.Journal.{Reaches, stands}
use Rattle.mq_blocks.specs.declared.geometry.Geometry.{Geometry}
use Rattle.mq_recover.specs.Drives.{AreImages, DriveState, view_over}
use Rattle.mq_replica.specs.Contents.{AreSame, Contents}

-- a power cut may leave this of the drive
abbrev pub IsLeftOf : Geometry → DriveState → DriveState → Type 0
IsLeftOf g d cut = AreImages g d (map image_of cut.queues) (image_of cut.root)

-- The drive's image is readable, and what stands on its home blocks has the property.
pub record StandsAs (g : Geometry) (d : DriveState) (has : Contents → Type 0) : Type 0 where
  pub readable : ∥ ((ds : List Descriptor) × Reaches g (view_over g d) ds) ∥₁
  pub are : (ds : List Descriptor) → Reaches g (view_over g d) ds → has (stands g (view_over g d) ds)

-- of whatever a power cut leaves
abbrev pub AlwaysStands : Geometry → DriveState → (Contents → Type 0) → Type 0
AlwaysStands g d has = (cut : DriveState) → IsLeftOf g d cut → StandsAs g cut has

-- each image stands for these contents
abbrev pub StandsFor : Geometry → DriveState → Contents → Type 0
StandsFor g d c = AlwaysStands g d (AreSame g c)

-- each image stands for the one or the other
abbrev pub StandsForEither : Geometry → DriveState → Contents → Contents → Type 0
StandsForEither g d a b = AlwaysStands g d (λ f. ∥ AreSame g a f ⊎ AreSame g b f ∥₁)
