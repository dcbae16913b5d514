-- Why a queue of a drive is not readable. Each cause is the first in the order of the
-- tests, and says what was found.
use Rattle.std.specs.Prelude.{◌≡◌, ◌≢◌, ◌⊎◌, ◌<◌, ◌≤◌, ℕ, ◌+◌, ◌-◌, ◌%◌, Bool, true, false, List, [], ◌∷◌, Option, Some, None, slice_index_or}
use Rattle.std.specs.Option.{unwrap_or}
use Rattle.mq_blocks.specs.Blocks.{block_at}
use Rattle.mq_blocks.specs.Limits.{depth, usable_depth}
use Rattle.mq_blocks.specs.Descriptor.{Descriptor, first_place}
use Rattle.mq_blocks.specs.Drive.{PortState}
use Rattle.mq_blocks.specs.Geometry.{area_lba, area_of}
use Rattle.mq_blocks.specs.Journal.{WriteFields, number_limit}
use Rattle.mq_blocks.specs.declared.geometry.Geometry.{Geometry}
use Rattle.mq_nvme.specs.Entry.{refusal_of}
use Rattle.mq_nvme.specs.Says.{says}
use Rattle.mq_nvme.specs.declared.write.EntryRefusal.{EntryRefusal}
use Rattle.mq_area.specs.Reading.{Accepts, Refuses}
use Rattle.mq_area.specs.declared.descriptor.Expect.{Expect}
use Rattle.mq_area.specs.declared.descriptor.PlaceIs.{PlaceIs}
use Rattle.mq_area.specs.declared.descriptor.PlaceIs.TheVariants.{Index, Exact}
use Rattle.mq_area.specs.declared.refusal.DescriptorRefusal.{DescriptorRefusal}
use Rattle.mq_area.specs.declared.refusal.DescriptorRefusal.TheVariants as descriptor
use Rattle.mq_ledger.specs.State.{port_at}
use Rattle.mq_recover.specs.Drives.{DriveState}
use Rattle.mq_recover.specs.Reader.{Accepting, Refusing}
use Rattle.mq_recover.specs.Recover.{IsWithinReach, where_of}
use Rattle.mq_recover.specs.declared.refusal.ChainRefusal.{ChainRefusal}
use Rattle.mq_recover.specs.declared.refusal.ChainRefusal.TheVariants.{Words, Entry, Commit, AreaPlace, Descriptor as AtDescriptor, Span, Limit}
use Rattle.mq_recover.specs.declared.refusal.ImageFault.{ImageFault}
use Rattle.mq_recover.specs.declared.refusal.ImageFault.TheVariants as fault

-- the dwords in the slot of a count
abbrev pub entry_at : PortState → ℕ → List ℕ
entry_at s count = slice_index_or s.flushed (count % depth) []

-- the slot of this count holds no request
abbrev pub RefusesEntry : PortState → (count : ℕ) → ChainRefusal → Type 0
RefusesEntry s count e =
    (cause : EntryRefusal) × (e ≡ Entry cause) × (refusal_of (entry_at s count) ≡ Some cause)

-- ---- the words of a queue

pub record AreWords (s : PortState) : Type 0 where
  pub order : s.head ≤ s.doorbell
  pub few : s.doorbell - s.head ≤ usable_depth
  pub low : s.doorbell ≤ number_limit

-- ---- the entry before the head

-- it is the commit request of this number to this Lba; without one, before any entry, both are 0
pub record IsNewest (s : PortState) (number lba : ℕ) : Type 0 where
  pub none : s.head ≡ 0 → (number ≡ 0) × (lba ≡ 0)
  pub some : 0 < s.head → says (entry_at s (s.head - 1)) ≡ Some (number, lba, true)
  pub limit : number ≤ number_limit

-- the first cause for which there is none
pub data RefusesNewest (s : PortState) : ChainRefusal → Type 0 where
  NewestEntry : (cause : EntryRefusal) → 0 < s.head → refusal_of (entry_at s (s.head - 1)) ≡ Some cause
      → RefusesNewest s (Entry cause)
  NewestCommit : (number lba : ℕ) → 0 < s.head
      → says (entry_at s (s.head - 1)) ≡ Some (number, lba, false) → RefusesNewest s Commit
  NewestLimit : (number lba : ℕ) → 0 < s.head
      → says (entry_at s (s.head - 1)) ≡ Some (number, lba, true) → number_limit < number
      → RefusesNewest s (Limit number)

-- ---- the chain

-- where a descriptor is expected
abbrev pub expected : (q number : ℕ) → PlaceIs → Expect
expected q number at = record { queue = q; number = number; place = at }

abbrev pub block_where : Geometry → PortState → PlaceIs → List ℕ
block_where g s at = block_at s.blocks (where_of at % area_of g)

-- the block before it in the area
abbrev pub before_where : Geometry → PortState → PlaceIs → List ℕ
before_where g s at = block_at s.blocks ((where_of at % area_of g + (area_of g - 1)) % area_of g)

-- the Lba is this index of the queue's journal area
abbrev pub IsIndex : Geometry → (q lba index : ℕ) → Type 0
IsIndex g q lba index = (lba ≡ area_lba g q index) × (index < area_of g)

-- the descriptor that is expected stands there, in reach of the newest place
abbrev pub IsFoundNextBy : (accepts : Accepting) (g : Geometry) (s : PortState) (q number : ℕ) → PlaceIs
    → (newest : Option ℕ) → Descriptor → Type 0
IsFoundNextBy accepts g s q number at newest d =
    accepts g (expected q number at) (block_where g s at) (before_where g s at) d
    × IsWithinReach g newest d

-- From the descriptor that is expected first on, these were found, the newest first, each as its
-- successor names it and in reach of the newest; then another is expected.
abbrev pub AreFoundBy : (accepts : Accepting) (g : Geometry) (s : PortState) (q base number : ℕ) → PlaceIs
    → (newest : Option ℕ) → List Descriptor → (next : ℕ) → PlaceIs → Option ℕ → Type 0
AreFoundBy accepts g s q base number at newest [] next next_at next_newest =
    (next ≡ number) × (next_at ≡ at) × (next_newest ≡ newest)
AreFoundBy accepts g s q base number at newest (d ∷ ds) next next_at next_newest =
    (base < number) × IsFoundNextBy accepts g s q number at newest d
    × AreFoundBy accepts g s q base d.prev_number (Exact d.prev_place)
    (Some (unwrap_or newest d.place)) ds next next_at next_newest

-- the descriptor that is expected is refused, or out of reach
pub data RefusesNextBy (accepts : Accepting) (refuses : Refusing) (g : Geometry) (s : PortState)
    (q number : ℕ) (at : PlaceIs) (newest : Option ℕ) : ChainRefusal → Type 0 where
  NextRefused : (cause : DescriptorRefusal) → cause ≢ descriptor.OutOfMemory
      → refuses g (expected q number at) (block_where g s at) (before_where g s at) cause
      → RefusesNextBy accepts refuses g s q number at newest (AtDescriptor number cause)
  NextApart : (d : Descriptor)
      → accepts g (expected q number at) (block_where g s at) (before_where g s at) d
      → first_place d + area_of g ≤ unwrap_or newest d.place
      → RefusesNextBy accepts refuses g s q number at newest
      (Span (first_place d) (unwrap_or newest d.place))

-- The chain from the newest number on: its Lba is not in the queue's area, or some descriptor of the
-- chain is refused after those before it were found.
pub data RefusesChainBy (accepts : Accepting) (refuses : Refusing) (g : Geometry) (s : PortState)
    (q base number lba : ℕ) : ChainRefusal → Type 0 where
  ChainOutside : base < number → ((place : ℕ) → lba ≡ area_lba g q place → ⊥)
      → RefusesChainBy accepts refuses g s q base number lba (AreaPlace lba)
  ChainStopped : {cause : ChainRefusal} (index : ℕ) (ds : List Descriptor) (next : ℕ) (at : PlaceIs)
      (newest : Option ℕ)
      → base < number → IsIndex g q lba index
      → AreFoundBy accepts g s q base number (Index index) None ds next at newest → base < next
      → RefusesNextBy accepts refuses g s q next at newest cause
      → RefusesChainBy accepts refuses g s q base number lba cause

-- the whole chain was found
abbrev pub IsWholeChainBy : (accepts : Accepting) (g : Geometry) (s : PortState) (q base number lba : ℕ)
    → List Descriptor → Type 0
IsWholeChainBy accepts g s q base number lba ds =
    ((number ≤ base) × (ds ≡ []))
    ⊎ ((base < number) × (index : ℕ) × IsIndex g q lba index × (next : ℕ) × (at : PlaceIs)
    × (newest : Option ℕ)
    × AreFoundBy accepts g s q base number (Index index) None ds next at newest × (next ≤ base))

-- ---- the entries from head to doorbell

-- the entry of a count is a request whose number is within the limit
abbrev pub IsRung : PortState → ℕ → Type 0
IsRung s count = (r : WriteFields) × (says (entry_at s count) ≡ Some r) × (r.0 ≤ number_limit)

abbrev pub AreRung : PortState → (from to : ℕ) → Type 0
AreRung s from to = (count : ℕ) → from ≤ count → count < to → IsRung s count

-- where there are entries, the last is a commit request
abbrev pub IsRungWhole : PortState → Type 0
IsRungWhole s =
    s.head < s.doorbell
    → (number : ℕ) × (lba : ℕ) × (says (entry_at s (s.doorbell - 1)) ≡ Some (number, lba, true))

-- the entry of a count is not such a request
pub data RefusesRequest (s : PortState) (count : ℕ) : ChainRefusal → Type 0 where
  RequestEntry : (cause : EntryRefusal) → refusal_of (entry_at s count) ≡ Some cause
      → RefusesRequest s count (Entry cause)
  RequestLimit : (number lba : ℕ) (commit : Bool) → says (entry_at s count) ≡ Some (number, lba, commit)
      → number_limit < number → RefusesRequest s count (Limit number)

-- the first cause for which the entries from head to doorbell are not readable: one of them, by
-- rising count, and then that the last is no commit request
pub data RefusesRung (s : PortState) : ChainRefusal → Type 0 where
  RungStopped : {cause : ChainRefusal} (count : ℕ) → s.head ≤ count → count < s.doorbell
      → AreRung s s.head count → RefusesRequest s count cause → RefusesRung s cause
  RungCommit : (number lba : ℕ) → s.head < s.doorbell → AreRung s s.head s.doorbell
      → says (entry_at s (s.doorbell - 1)) ≡ Some (number, lba, false) → RefusesRung s Commit

-- the greatest number of the entries from one count on and below another, or 0 where there are none
pub record IsGreatest (s : PortState) (from to number : ℕ) : Type 0 where
  pub above : (count : ℕ) (r : WriteFields) → from ≤ count → count < to
      → says (entry_at s count) ≡ Some r → r.0 ≤ number
  pub shown : (number ≡ 0)
      ⊎ ((count : ℕ) × (r : WriteFields) × (from ≤ count) × (count < to)
      × (says (entry_at s count) ≡ Some r) × (r.0 ≡ number))

-- ---- a queue

-- the queue is readable over this base, and this is its chain
pub record IsReadableBy (accepts : Accepting) (g : Geometry) (s : PortState) (q base : ℕ)
    (ds : List Descriptor) : Type 0 where
  pub number : ℕ
  pub lba : ℕ
  pub words : AreWords s
  pub newest : IsNewest s number lba
  pub chain : IsWholeChainBy accepts g s q base number lba ds
  pub rung : AreRung s s.head s.doorbell
  pub rung_whole : IsRungWhole s

-- the first cause for which the queue is not readable over this base: its words, the entry before
-- its head, its chain, the entries from head to doorbell
pub data RefusesQueueBy (accepts : Accepting) (refuses : Refusing) (g : Geometry) (s : PortState)
    (q base : ℕ) : ChainRefusal → Type 0 where
  QueueWords : (AreWords s → ⊥) → RefusesQueueBy accepts refuses g s q base Words
  QueueNewest : {cause : ChainRefusal} → AreWords s → RefusesNewest s cause
      → RefusesQueueBy accepts refuses g s q base cause
  QueueChain : {cause : ChainRefusal} (number lba : ℕ) → AreWords s → IsNewest s number lba
      → RefusesChainBy accepts refuses g s q base number lba cause
      → RefusesQueueBy accepts refuses g s q base cause
  QueueRung : {cause : ChainRefusal} (number lba : ℕ) (ds : List Descriptor) → AreWords s
      → IsNewest s number lba → IsWholeChainBy accepts g s q base number lba ds → RefusesRung s cause
      → RefusesQueueBy accepts refuses g s q base cause

-- ---- a drive

-- the queues below this one are readable over the base, and these are their chains
abbrev pub AreReadableBy : (accepts : Accepting) (g : Geometry) (d : DriveState) (queues : ℕ)
    (chains : ℕ → List Descriptor) → Type 0
AreReadableBy accepts g d queues chains =
    (q : ℕ) → q < queues → IsReadableBy accepts g (port_at d.queues q) q d.root.base (chains q)

-- the first queue that is not readable, by rising queue
abbrev pub RefusesSomeBy : (accepts : Accepting) (refuses : Refusing) (g : Geometry) (d : DriveState)
    → ImageFault → Type 0
RefusesSomeBy accepts refuses g d (fault.Bad q cause) =
    (q < g.queues) × (chains : ℕ → List Descriptor) × AreReadableBy accepts g d q chains
    × RefusesQueueBy accepts refuses g (port_at d.queues q) q d.root.base cause
RefusesSomeBy accepts refuses g d (fault.Limit base) = ⊥
RefusesSomeBy accepts refuses g d (fault.Twice number first second) = ⊥
RefusesSomeBy accepts refuses g d fault.OutOfMemory = ⊥

-- ---- the journal's descriptors

abbrev pub IsFoundNext : (g : Geometry) (s : PortState) (q number : ℕ) → PlaceIs → (newest : Option ℕ)
    → Descriptor → Type 0
IsFoundNext = IsFoundNextBy Accepts

abbrev pub AreFound : (g : Geometry) (s : PortState) (q base number : ℕ) → PlaceIs → (newest : Option ℕ)
    → List Descriptor → (next : ℕ) → PlaceIs → Option ℕ → Type 0
AreFound = AreFoundBy Accepts

abbrev pub RefusesNext : (g : Geometry) (s : PortState) (q number : ℕ) → PlaceIs → (newest : Option ℕ)
    → ChainRefusal → Type 0
RefusesNext = RefusesNextBy Accepts Refuses

abbrev pub RefusesChain : (g : Geometry) (s : PortState) (q base number lba : ℕ) → ChainRefusal → Type 0
RefusesChain = RefusesChainBy Accepts Refuses

abbrev pub IsWholeChain : (g : Geometry) (s : PortState) (q base number lba : ℕ) → List Descriptor → Type 0
IsWholeChain = IsWholeChainBy Accepts

abbrev pub IsReadable : (g : Geometry) (s : PortState) (q base : ℕ) → List Descriptor → Type 0
IsReadable = IsReadableBy Accepts

abbrev pub RefusesQueue : (g : Geometry) (s : PortState) (q base : ℕ) → ChainRefusal → Type 0
RefusesQueue = RefusesQueueBy Accepts Refuses

abbrev pub AreReadable : (g : Geometry) (d : DriveState) (queues : ℕ) (chains : ℕ → List Descriptor)
    → Type 0
AreReadable = AreReadableBy Accepts

abbrev pub RefusesSome : (g : Geometry) (d : DriveState) → ImageFault → Type 0
RefusesSome = RefusesSomeBy Accepts Refuses
