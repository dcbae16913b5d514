-- What holds of the parts of a port in memory, whatever is under way.
use Rattle.std.specs.Prelude.{◌≡◌, ◌<◌, ◌≤◌, ℕ, ◌+◌, ◌-◌, ◌^◌, Bool, false, List, length, All, Option, IsSome, IsNone, is_some, slice_index_or}
use Rattle.std.specs.Option.{ForSome, option_to_list}
use Rattle.std.specs.Coded.{Coded-set, coded_ℕ, coded_bool, coded_list, le_prop}
use Rattle.mq_blocks.specs.Drive.{AreCounted, AreCounted-prop}
use Rattle.mq_blocks.specs.Limits.{depth, usable_depth}
use Rattle.mq_blocks.specs.declared.command.Command.{Command}
use Rattle.mq_blocks.specs.declared.command.HomeWrite.{HomeWrite}
use Rattle.mq_drive.specs.Failures.{written_by}
use Rattle.mq_drive.specs.Happened.{happened_by}
use Rattle.mq_drive.specs.Roles.{slots_of, queue_in, id_of}
use Rattle.mq_drive.specs.Slots.{AreSettled, AreStaged, index_in}
use Rattle.mq_drive.specs.declared.extent.Extent.{Extent}
use Rattle.mq_drive.specs.declared.failing.Failure.{Failure}
use Rattle.mq_drive.specs.declared.role.Role.{Role}

-- ---- the parts, by topic

-- which port it is, the identifier of its queue, and where its blocks lie
pub record Place : Type 0 where
  pub role : Role
  pub id : ℕ
  pub area : Extent
  pub homes : Extent

-- the slots of its ring, and the count up to which they are flushed
pub record Slots : Type 0 where
  pub flushed : List (List ℕ)
  pub staged : List (List ℕ)
  pub flushed_end : ℕ

-- the commands that are staged and those that are posted, and how many there is room for
pub record Queued : Type 0 where
  pub pending : List Command
  pub pending_capacity : ℕ
  pub posted : List Command
  pub posted_capacity : ℕ

-- its doorbell, and the words of its memory region, as flushed and as stored
pub record Words : Type 0 where
  pub doorbell : ℕ
  pub head : ℕ
  pub stored_head : ℕ
  pub base : ℕ
  pub stored_base : ℕ

-- its blocks, the write that failed and the home write that was cut short
pub record Written : Type 0 where
  pub stored : List (Option (List ℕ))
  pub certain : List Bool
  pub doubt : Option ℕ
  pub failure : Option Failure
  pub under_way : Option HomeWrite

-- what it counts, the events that happened and those that were refused, and whether a command failed
pub record Counted : Type 0 where
  pub events : ℕ
  pub begins : ℕ
  pub happened : ℕ
  pub offs : ℕ
  pub failed : Bool

-- ---- what holds of each topic

-- its area stands before its homes, the two are all its blocks, and its 16-bit identifier is its role's
pub record IsPlaced (port : Place) (blocks : ℕ) : Type 0 where
  pub sized : port.area.size + port.homes.size ≡ blocks
  pub area_before : port.area.first + port.area.size ≤ port.homes.first
  pub homes_end : port.homes.first + port.homes.size ≤ 2 ^ 32
  pub id_small : port.id < 2 ^ 16
  pub id_is : port.id ≡ id_of (queue_in port.role)

-- the flushed slots and the staged ones are those of one ring, and differ only where they are not flushed
pub record AreSlots (role : Role) (slots : Slots) (doorbell : ℕ) (pending : List Command) : Type 0 where
  pub same_ring : length slots.flushed ≡ length slots.staged
  pub ring : length slots.staged ≡ slots_of role
  -- only a port with a ring has staged commands
  pub pending_ring : 0 < length pending → length slots.staged ≡ depth
  pub settled : AreSettled slots.flushed slots.staged slots.flushed_end (doorbell + length pending)
  pub flushed_low : doorbell ≤ slots.flushed_end
  pub flushed_high : slots.flushed_end ≤ doorbell + length pending

-- the commands stand in order of count, and each of the two lists has room for all that a ring may hold
pub record AreQueued (queued : Queued) (doorbell head stored_head : ℕ) : Type 0 where
  pub pending_room : usable_depth ≤ queued.pending_capacity
  pub posted_room : usable_depth ≤ queued.posted_capacity
  -- from the flushed head on there are no more entries than a ring can hold
  pub pending_few : 0 < length queued.pending → doorbell + length queued.pending - head ≤ usable_depth
  pub pending_last : 0 < length queued.pending → doorbell + length queued.pending ≤ 2 ^ 63
  pub pending_order : 0 < length queued.pending → stored_head ≤ doorbell
  pub pending_counted : AreStaged doorbell queued.pending
  pub posted_counted : AreCounted stored_head doorbell queued.posted

-- a queue's base is 0, and so are the doorbell and the head of the root
pub record AreWords (role : Role) (kept : Words) : Type 0 where
  pub heads : kept.head ≤ kept.stored_head
  pub queue_base : IsSome (queue_in role) → (kept.base ≡ 0) × (kept.stored_base ≡ 0)
  pub root_words : IsNone (queue_in role) → (kept.doorbell ≡ 0) × (kept.head ≡ 0) × (kept.stored_head ≡ 0)

-- the block is one of the port's, which has `blocks` of them
abbrev pub IsBlock : Place → (blocks lba : ℕ) → Type 0
IsBlock port blocks lba =
    (port.area.first ≤ lba) × (index_in port.area.first port.area.size port.homes.first lba < blocks)

-- each write is one of the port's blocks
pub record AreWritten (port : Place) (pending posted : List Command) (written : Written) : Type 0 where
  pub pending_own : All (λ c. IsBlock port (length written.stored) c.lba) pending
  pub posted_own : All (λ c. IsBlock port (length written.stored) c.lba) posted
  pub failure_own : ForSome written.failure (λ f. IsBlock port (length written.stored) (written_by f))
  -- the block that a failure leaves uncertain is the one that the failed write was to write
  pub failure_doubt : ForSome written.failure (λ f. ForSome written.doubt (λ k.
      index_in port.area.first port.area.size port.homes.first (written_by f) ≡ k))
  pub under_way_own : ForSome written.under_way (λ w. IsBlock port (length written.stored) w.lba)
  -- the block of a home write that was cut short is not certain
  pub under_way_doubt : ForSome written.under_way (λ w.
      slice_index_or written.certain
      (index_in port.area.first port.area.size port.homes.first w.lba) false
      ≡ false)

-- the events, the failure and the home write that was cut short are as counted
pub record AreCounts (counted : Counted) (failure : Option Failure)
    (under_way : Option HomeWrite) : Type 0 where
  pub events_counted : counted.happened
      ≡ happened_by counted.events counted.begins (length (option_to_list under_way))
  pub failure_counted : is_some failure ≡ counted.failed
  -- a home write is cut short only where an event is refused
  pub under_way_last : ForSome under_way (λ w. 0 < counted.offs)

-- ---- what holds of the port

pub record IsSound (port : Place) (ring : Slots) (queued : Queued) (kept : Words) (written : Written)
    (counted : Counted) : Type 0 where
  pub place : IsPlaced port (length written.stored)
  pub slots : AreSlots port.role ring kept.doorbell queued.pending
  pub commands : AreQueued queued kept.doorbell kept.head kept.stored_head
  pub words : AreWords port.role kept
  pub writes : AreWritten port queued.pending queued.posted written
  pub counts : AreCounts counted written.failure written.under_way

pub IsSound-prop : {port : Place} {ring : Slots} {queued : Queued} {kept : Words} {written : Written}
    {counted : Counted}
    → IsProp (IsSound port ring queued kept written counted)
IsSound-prop = hlevel (AreCounted-prop, le_prop, Coded-set, coded_ℕ, coded_bool, coded_list)
