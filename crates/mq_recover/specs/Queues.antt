-- What reading the chains of all queues finds.
use Rattle.std.specs.Prelude.{◌≡◌, ◌<◌, ◌≤◌, ℕ, ◌^◌, List, [], ◌∷◌, length}
use Rattle.mq_area.specs.Reading.{Accepts, Refuses}
use Rattle.mq_blocks.specs.Descriptor.{Descriptor}
use Rattle.mq_blocks.specs.Journal.{Shown, ShowsNumber, number_limit}
use Rattle.mq_blocks.specs.declared.geometry.Geometry.{Geometry}
use Rattle.mq_recover.specs.Drives.{DriveState, view_over}
use Rattle.mq_recover.specs.Recover.{chain_at, AreFalling, AreGood, AreOf}
use Rattle.mq_recover.specs.Reader.{Accepting, Refusing}
use Rattle.mq_recover.specs.Refusals.{AreReadableBy, RefusesSomeBy}
use Rattle.mq_recover.specs.declared.queues.QueuesRead.{QueuesRead}
use Rattle.mq_recover.specs.declared.refusal.ImageFault.{ImageFault}
use Rattle.mq_recover.specs.declared.refusal.ImageFault.TheVariants as fault

-- the greatest number that is shown
pub record IsGreatestShown (g : Geometry) (i : Shown) (chains : ℕ → List Descriptor)
    (top : ℕ) : Type 0 where
  pub shown : ShowsNumber g i chains top
  pub greatest : (n : ℕ) → ShowsNumber g i chains n → n ≤ top

-- the number of the newest descriptor, or the base where there is none
abbrev pub newest_number : ℕ → List Descriptor → ℕ
newest_number base [] = base
newest_number base (d ∷ ds) = d.number

-- these are chains of queues, in order, of a drive with `homes` home blocks
pub record AreChains (homes base : ℕ) (chains : List (List Descriptor)) : Type 0 where
  pub few : length chains < 2 ^ 32
  pub good : (q : ℕ) → q < length chains → AreGood homes (chain_at chains q)
  pub falling : (q : ℕ) → q < length chains → AreFalling base (2 ^ 64) (chain_at chains q)
  pub own : (q : ℕ) → q < length chains → AreOf q (chain_at chains q)

-- the queues are readable, these are their chains, and the greatest number that the image shows
pub record AreReadBy (accepts : Accepting) (g : Geometry) (d : DriveState) (read : QueuesRead) : Type 0 where
  pub count : length read.chains.items ≡ g.queues
  pub readable : AreReadableBy accepts g d g.queues (chain_at read.chains.items)
  pub top : IsGreatestShown g (view_over g d) (chain_at read.chains.items) read.top

-- the base is within its limit too
pub record AreChainsReadBy (accepts : Accepting) (g : Geometry) (d : DriveState)
    (read : QueuesRead) : Type 0 where
  pub limit : d.root.base ≤ number_limit
  pub queues : AreReadBy accepts g d read

-- the first cause for which not all chains can be read: the base, and then the queues in rising order
abbrev pub RefusesReadingBy : (accepts : Accepting) (refuses : Refusing) (g : Geometry) (d : DriveState)
    → ImageFault → Type 0
RefusesReadingBy accepts refuses g d (fault.Limit base) = (base ≡ d.root.base) × (number_limit < base)
RefusesReadingBy accepts refuses g d (fault.Bad q cause) =
    (d.root.base ≤ number_limit) × RefusesSomeBy accepts refuses g d (fault.Bad q cause)
RefusesReadingBy accepts refuses g d (fault.Twice number first second) = ⊥
RefusesReadingBy accepts refuses g d fault.OutOfMemory = ⊥

-- the same of the journal's chains
abbrev pub AreChainsRead : (g : Geometry) (d : DriveState) → QueuesRead → Type 0
AreChainsRead = AreChainsReadBy Accepts

abbrev pub RefusesReading : (g : Geometry) (d : DriveState) → ImageFault → Type 0
RefusesReading = RefusesReadingBy Accepts Refuses
