-- What a refusal in the middle of a commit leaves, and how many lines of a text then stand.
use Rattle.std.specs.Prelude.{◌≡◌, ◌<◌, ◌⊎◌, ℕ, zero, suc, ◌+◌, ◌-◌, ◌*◌, ◌%◌, List, [], ◌∷◌, length, false, Option, Some, None, slice_index_or, nat_lt, if◌then◌else◌}
use Rattle.mq_nvme.specs.Says.{journal_reading}
use Rattle.mq_blocks.specs.Blocks.{block_at}
use Rattle.mq_blocks.specs.Limits.{depth}
use Rattle.mq_blocks.specs.Drive.{PortState, PortImage, IsImage, IsFlushed, IsCertain, counted, index_of, staged_end, after_flush, after_ring, after_store_head}
use Rattle.mq_blocks.specs.Journal.{shown}
use Rattle.mq_blocks.specs.declared.geometry.Geometry.{Geometry}
use Rattle.mq_drive.specs.Fuse.{above, below}
use Rattle.mq_drive.specs.Start.{IsPortOf}
use Rattle.mq_drive.specs.declared.role.Role.{Role}
use Rattle.mq_command_blocks.specs.Commits.{ShowsMap}
use Rattle.mq_block_trace.specs.Lines.{line_at, map_after}
use Rattle.mq_block_trace.specs.Prefixes.{IsReached, events_of}
use Rattle.mq_pmr.specs.Runs.{Items, slots_with, after_some}
use Rattle.mq_command_blocks.specs.Runs.{IsApart, IsNewIn, after_all}
use Rattle.mq_block_text.specs.Text.{sets_in}
use Rattle.mq_block_text.specs.declared.item.BlockItem.{BlockItem}

-- each image of the queue's port, with a root of base 0, shows as many lines as stand after these
-- events
abbrev pub QueueShows : Geometry → PortState → List (List BlockItem) → ℕ → Type 0
QueueShows g queue lines events =
    (q r : PortImage) → IsImage queue q → r.base ≡ 0
    → (n : ℕ) × IsReached lines events n
    × ShowsMap g (shown journal_reading g (q ∷ []) r) n (map_after lines n)

-- each image of the two ports shows as many lines as stand after these events
abbrev pub ShowsReached : Geometry → PortState → PortState → List (List BlockItem) → ℕ → Type 0
ShowsReached g queue root lines events =
    (q r : PortImage) → IsImage queue q → IsImage root r
    → (n : ℕ) × IsReached lines events n
    × ShowsMap g (shown journal_reading g (q ∷ []) r) n (map_after lines n)

-- ---- the doorbell

-- How far a transaction of so many entries has moved the doorbell after so many of its events: each entry
-- is staged, they are flushed, and one write rings them all.
abbrev pub rung_by : (entries events : ℕ) → ℕ
rung_by entries events = if nat_lt events (entries + 2) then 0 else entries

-- How far the first n lines have moved it after so many events of the text. A line that sets so many blocks
-- has one entry more, its descriptor's.
abbrev pub rung_upto : List (List BlockItem) → (events n : ℕ) → ℕ
rung_upto lines events zero = 0
rung_upto lines events (suc n) =
    rung_upto lines events n + rung_by (sets_in (line_at lines n) + 1) (events - events_of lines n)

-- the same of all lines
abbrev pub rung_after : List (List BlockItem) → ℕ → ℕ
rung_after lines events = rung_upto lines events (length lines)

-- What a refusal after so many events of a text, fewer than it has, leaves of the queue's counts: the
-- doorbell has moved past the lines that were rung, and past no other.
pub record HasStopped (s new : PortState) (lines : List (List BlockItem)) (events : ℕ) : Type 0 where
  pub events_are : new.events ≡ counted s.events events
  pub few : events < events_of lines (length lines)
  pub rung : new.doorbell ≡ s.doorbell + rung_after lines events

-- How many lines stand and where the doorbell stands, by the tickets of the queue's port, where its power
-- is that of a fuse with this limit and the doorbell began at 0. All lines stand where the power stayed on,
-- and the events were those of the whole text. Where it went off, a ticket was at or above the limit, and
-- those lines stand that do after so many events, fewer than the text has.
abbrev pub StandsUnder : List (List BlockItem) → Option ℕ → List ℕ → (doorbell p : ℕ) → Type 0
StandsUnder lines None tickets doorbell p =
    (p ≡ length lines) × (doorbell ≡ rung_after lines (events_of lines (length lines)))
StandsUnder lines (Some limit) tickets doorbell p =
    (doorbell ≡ rung_after lines (below limit tickets))
    × (((p ≡ length lines) × (below limit tickets ≡ events_of lines (length lines)))
    ⊎ (IsReached lines (below limit tickets) p × (0 < above limit tickets)
    × (below limit tickets < events_of lines (length lines))))

-- ---- in the middle of a transaction

-- the port's fuse, its failing command and its home writes are as before
pub record HasBounds (s new : PortState) : Type 0 where
  pub fuse : new.fuse ≡ s.fuse
  pub fail : new.fail ≡ s.fail
  pub begins : new.begins ≡ s.begins

-- So many of the posted commands have ended, with success or with an error. What the posted commands
-- don't write is as before.
pub record HasEnded (s new : PortState) (ended : ℕ) : Type 0 where
  pub is : new
      ≡ record s {
        posted = new.posted;
        failed = new.failed;
        blocks = new.blocks;
        certain = new.certain;
        events = counted s.events ended;
      }
  pub left : length new.posted + ended ≡ length s.posted
  pub posted : (k : ℕ) → IsApart (index_of s) k s.posted → IsApart (index_of s) k new.posted
  pub blocks : (k : ℕ) → IsApart (index_of s) k s.posted → block_at new.blocks k ≡ block_at s.blocks k
  pub certain : (k : ℕ) → IsApart (index_of s) k s.posted
      → slice_index_or new.certain k false ≡ slice_index_or s.certain k false
  pub blocks_len : length new.blocks ≡ length s.blocks
  pub certain_len : length new.certain ≡ length s.certain

-- the doorbell is past the transaction, whose entries are flushed
pub record IsRung (s new : PortState) (tx : ℕ) (items : Items) : Type 0 where
  pub doorbell : new.doorbell ≡ s.doorbell + length items
  pub slots : new.flushed ≡ slots_with s.staged tx (staged_end s) (length items) items
  pub flushed : (slot : ℕ) → IsFlushed new slot

-- The head is where it was before these items, and the entry before it and the blocks that they
-- don't write are certain, as they were. The doorbell is where it was, or past them all.
pub record IsEarly (s new : PortState) (tx : ℕ) (items : Items) : Type 0 where
  pub head : new.head ≡ s.head
  pub stored : new.stored_head ≡ s.head
  pub slot : 0 < s.head
      → slice_index_or new.flushed ((s.head - 1) % depth) []
      ≡ slice_index_or s.flushed ((s.head - 1) % depth) []
  pub slot_flushed : 0 < s.head → IsFlushed new ((s.head - 1) % depth)
  pub blocks : (k : ℕ) → IsNewIn (index_of s) k items → block_at new.blocks k ≡ block_at s.blocks k
  pub certain : (k : ℕ) → k < length s.certain → IsNewIn (index_of s) k items → IsCertain new k
  pub rung : (new.doorbell ≡ s.doorbell) ⊎ IsRung s new tx items

-- a whole transaction is executed, and the head is stored past it and not flushed
unfoldable pub nearly_done : PortState → ℕ → Items → PortState
nearly_done s tx items =
    after_store_head (after_all (after_ring (after_flush (after_some s tx (length items) items))))
    (staged_end s + length items)

-- after so many events of a transaction, fewer than it has
pub record IsCut (s new : PortState) (tx : ℕ) (items : Items) (events : ℕ) : Type 0 where
  pub events_are : new.events ≡ counted s.events events
  pub rung_is : new.doorbell ≡ s.doorbell + rung_by (length items) events
  pub bounds : HasBounds s new
  pub port : (g : Geometry) (role : Role) → IsPortOf g role s → IsPortOf g role new
  pub stage : (IsEarly s new tx items × (events < 2 * length items + 3))
      ⊎ ((new ≡ nearly_done s tx items) × (events ≡ 2 * length items + 3))
