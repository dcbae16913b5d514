-- Why the image of a drive is not readable.
use Rattle.std.specs.Prelude.{◌≡◌, ◌<◌, ◌≤◌, ℕ, List}
use Rattle.mq_area.specs.Reading.{Accepts, Refuses}
use Rattle.mq_blocks.specs.Descriptor.{Descriptor}
use Rattle.mq_blocks.specs.Journal.{number_limit}
use Rattle.mq_blocks.specs.declared.geometry.Geometry.{Geometry}
use Rattle.mq_recover.specs.Drives.{DriveState}
use Rattle.mq_recover.specs.Merges.{HasNumber, IsTwice}
use Rattle.mq_recover.specs.Reader.{Accepting, Refusing}
use Rattle.mq_recover.specs.Refusals.{AreReadableBy, RefusesSomeBy}
use Rattle.mq_recover.specs.declared.refusal.ImageFault.{ImageFault}
use Rattle.mq_recover.specs.declared.refusal.ImageFault.TheVariants as fault

-- The first cause for which the image of a drive is not readable: the base, the queues in rising
-- order, and then a number that stands in two chains.
abbrev pub RefusesImageBy : (accepts : Accepting) (refuses : Refusing) (g : Geometry) (d : DriveState)
    → ImageFault → Type 0
RefusesImageBy accepts refuses g d (fault.Limit base) = (base ≡ d.root.base) × (number_limit < base)
RefusesImageBy accepts refuses g d (fault.Bad q cause) =
    (d.root.base ≤ number_limit) × RefusesSomeBy accepts refuses g d (fault.Bad q cause)
RefusesImageBy accepts refuses g d (fault.Twice number first second) =
    (d.root.base ≤ number_limit) × (chains : ℕ → List Descriptor)
    × AreReadableBy accepts g d g.queues chains × IsTwice g.queues chains number first second
RefusesImageBy accepts refuses g d fault.OutOfMemory = ⊥

-- The image of a drive is readable: its base is within the limit, each queue is readable over the
-- base, and no number stands in the chains of two queues.
pub record IsReadableImageBy (accepts : Accepting) (g : Geometry) (d : DriveState) : Type 0 where
  pub limit : d.root.base ≤ number_limit
  pub chains : ℕ → List Descriptor
  pub readable : AreReadableBy accepts g d g.queues chains
  pub once : (q r number : ℕ) → q < r → r < g.queues → HasNumber (chains q) number
      → HasNumber (chains r) number → ⊥

-- the same of an image of the journal
abbrev pub RefusesImage : (g : Geometry) (d : DriveState) → ImageFault → Type 0
RefusesImage = RefusesImageBy Accepts Refuses

abbrev pub IsReadableImage : (g : Geometry) (d : DriveState) → Type 0
IsReadableImage = IsReadableImageBy Accepts
