-- Readable images of the loose order, and why others are refused.
use Rattle.std.specs.Prelude.{◌≡◌, ◌<◌, ℕ, List, map}
use Rattle.mq_blocks.specs.Descriptor.{Descriptor}
use Rattle.mq_blocks.specs.Drive.{image_of}
use Rattle.mq_blocks.specs.Journal.{AreWhole, Has, IsTop, Reading, Shown, shown}
use Rattle.mq_blocks.specs.declared.geometry.Geometry.{Geometry}
use Rattle.mq_loose_order.specs.Form.{IsLoose, loose_form}
use Rattle.mq_loose_order.specs.Standing.{AreStanding}
use Rattle.mq_nvme.specs.Says.{says}
use Rattle.mq_recover.specs.Drives.{DriveState}
use Rattle.mq_recover.specs.Images.{IsReadableImageBy, RefusesImageBy}
use Rattle.mq_recover.specs.declared.refusal.ImageFault.{ImageFault}
use Rattle.mq_loose_recover.specs.Reading.{accepts_loose, refuses_loose}

-- how a journal of the loose order is read, where the transactions of these numbers depend on these
abbrev pub loose_reading : (ℕ → List ℕ) → Reading
loose_reading deps = record { says = says; form = loose_form deps }

-- what the images of the ports show then, where each has one
abbrev pub loose_view : (ℕ → List ℕ) → Geometry → DriveState → Shown
loose_view deps g d = shown (loose_reading deps) g (map image_of d.queues) (image_of d.root)

-- exactly the transactions in these chains are whole, and each has a descriptor of the loose order
pub record AreLooselyWhole (deps : ℕ → List ℕ) (g : Geometry) (i : Shown)
    (chains : ℕ → List Descriptor) : Type 0 where
  pub form_is : i.form ≡ loose_form deps
  pub whole : AreWhole g i chains
  pub loose : (q : ℕ) (d : Descriptor) → q < g.queues → Has (chains q) d → IsLoose d (deps d.number)

-- An image is readable: the descriptors of the transactions above its base that stand, newest first, and the
-- greatest number that it shows.
pub record IsLooselyRead (deps : ℕ → List ℕ) (g : Geometry) (i : Shown) (ds : List Descriptor)
    (top : ℕ) : Type 0 where
  pub chains : ℕ → List Descriptor
  pub whole : AreLooselyWhole deps g i chains
  pub standing : AreStanding deps g i chains ds
  pub top_is : IsTop g i chains top

-- ---- as it is tested

-- The image of a drive is readable: its base is within the limit, each queue is readable over the base, and no
-- number stands in the chains of two queues.
abbrev pub IsReadableLooseImage : Geometry → DriveState → Type 0
IsReadableLooseImage = IsReadableImageBy accepts_loose

-- The first cause for which it is not: the base, the queues in rising order, and then a number that stands in
-- two chains.
abbrev pub RefusesLooseImage : Geometry → DriveState → ImageFault → Type 0
RefusesLooseImage = RefusesImageBy accepts_loose refuses_loose
