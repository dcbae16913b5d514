-- What the first lines of a text have made of the queues.
use Rattle.std.specs.Prelude.{◌≡◌, ◌≢◌, ◌⊎◌, ◌<◌, ℕ, zero, suc, ◌+◌, Bool, false, List, [], Contains, length, None, nat_eq, nat_le, nat_lt, slice_index_or, if◌then◌else◌}
use Rattle.mq_block_trace.specs.Lines.{empty_map}
use Rattle.mq_block_trace.specs.Marks.{AreMarks}
use Rattle.mq_blocks.specs.Drive.{FuseName, PortState}
use Rattle.mq_drive.specs.Emu.{emu_faults, emu_state}
use Rattle.mq_drive.specs.Steps.{PowerOff}
use Rattle.mq_drive.specs.declared.emu.EmuPort.{EmuPort}
use Rattle.mq_drive.specs.declared.port.Port.{Ghosts}
use Rattle.mq_ledger.specs.History.{IsAt, map_after}
use Rattle.mq_ledger.specs.State.{State, from_at, is_done}
use Rattle.mq_ledger.specs.declared.tx.Tx.{Tx}
use Rattle.mq_loose_queues.specs.Journal.{IsJournal}
use Rattle.mq_loose_queues.specs.Queues.{QueuesState, at_queue, parts_state, ports_of}
use Rattle.mq_loose_queues.specs.declared.queues.LooseQueues.{LooseQueues}
use Rattle.mq_loose_text.specs.Meaning.{done_on, drawn_by, events_of_line, line_at, rung_upto, waiting_on}
use Rattle.mq_loose_text.specs.Text.{queue_count}
use Rattle.mq_loose_text.specs.declared.line.LooseLine.{LooseLine}
use Rattle.mq_loose_text.specs.declared.line.LooseLine.TheVariants.{Commit, Done}
use Rattle.mq_queue_side.specs.Side.{SideState}
use Rattle.mq_loose_run.specs.Runs.{IsRunGeometry}
use Rattle.mq_loose_run.specs.declared.running.Running.{Running}

abbrev pub queues_state : {G : Ghosts EmuPort} → LooseQueues EmuPort G → QueuesState
queues_state q = parts_state emu_state emu_faults q.parts

-- the queue of a line
abbrev pub queue_of : LooseLine → ℕ
queue_of (Commit q is) = q
queue_of (Done q) = q

-- ---- one queue

-- the events of the first n lines that are on the queue
abbrev pub events_on : ℕ → List LooseLine → ℕ → ℕ
events_on q lines zero = 0
events_on q lines (suc n) =
    events_on q lines n
    + (if nat_eq (queue_of (line_at lines n)) q then events_of_line lines n (line_at lines n) else 0)

-- so many events happened on the port, and none of a home write
pub record HasHappened (fuse : FuseName) (events : ℕ) (p : PortState) : Type 0 where
  pub fuse_is : p.fuse ≡ fuse
  pub fail : p.fail ≡ None
  pub begins : p.begins ≡ 0
  pub events_are : p.events ≡ events

-- all that was committed on the queue is rung, and what waits is posted
pub record HasRunOn (fuse : FuseName) (lines : List LooseLine) (n q : ℕ) (s : SideState) : Type 0 where
  pub happened : HasHappened fuse (events_on q lines n) s.port
  pub kept : s.kept ≡ None
  pub faults : s.faults ≡ []
  pub stored : s.port.stored_head ≡ s.port.head
  pub posted : length s.port.posted ≡ waiting_on q lines n
  pub waits : s.port.head + waiting_on q lines n ≡ s.port.doorbell
  pub rung : s.port.doorbell ≡ rung_upto None q lines n

-- the power went off on the queue after so many events of a line, fewer than it has
pub record IsCutOn (fuse : FuseName) (lines : List LooseLine) (n q events : ℕ) (s : SideState) : Type 0 where
  pub few : events < events_of_line lines n (line_at lines n)
  pub happened : HasHappened fuse (events_on q lines n + events) s.port
  pub off : Contains s.faults PowerOff
  pub rung : s.port.doorbell ≡ rung_upto None q lines n
  -- the head is stored and not flushed where all but the last event of a drain happened
  pub stored : (s.port.stored_head ≡ s.port.head)
      ⊎ ((line_at lines n ≡ Done q) × (events_of_line lines n (Done q) ≡ events + 1)
      × (s.port.stored_head ≡ s.port.doorbell))

-- ---- all queues

-- where the queues began
pub record IsRunStart (s : State) : Type 0 where
  pub geometry_is : IsRunGeometry s.geometry
  pub base : s.base ≡ 0
  pub starts : (q : ℕ) → from_at s.starts q ≡ 0

-- the journal has these transactions, and what is done of them is so after the first n lines
pub record HasDrawn (start : State) (lines : List LooseLine) (h : List Tx) (n : ℕ) (fuse : FuseName)
    (v : QueuesState) : Type 0 where
  pub start_is : IsRunStart start
  pub journal : IsJournal start h v
  pub done : (t : Tx) (ts : List Tx) → IsAt t ts h
      → is_done start.starts (ports_of v) t ts ≡ nat_le t.number (done_on None t.queue lines n)
  pub root : HasHappened fuse 0 v.root

-- the first n lines were run
pub record HasRun (fuse : FuseName) (start : State) (lines : List LooseLine) (n : ℕ) (v : QueuesState) : Type 0 where
  pub drawn : HasDrawn start lines (drawn_by lines n) n fuse v
  pub sides : (q : ℕ) → q < queue_count → HasRunOn fuse lines n q (at_queue v q).side

-- the power went off in the line behind the first n
pub record HasStopped (fuse : FuseName) (start : State) (lines : List LooseLine) (n : ℕ) (v : QueuesState) : Type 0 where
  pub inside : n < length lines
  pub own : queue_of (line_at lines n) < queue_count
  pub drawn : HasDrawn start lines (drawn_by lines (suc n)) n fuse v
  pub events : ℕ
  pub cut : IsCutOn fuse lines n (queue_of (line_at lines n)) events (at_queue v (queue_of (line_at lines n))).side
  pub others : (q : ℕ) → q < queue_count → q ≢ queue_of (line_at lines n)
      → HasRunOn fuse lines n q (at_queue v q).side

-- ---- with what the run keeps beside the queues

-- the marks of the blocks of the map, and of the queues on which entries wait
pub record AreKept (lines : List LooseLine) (n : ℕ) (marks waits : List Bool) : Type 0 where
  pub whole : length marks ≡ 256
  pub marks_are : AreMarks (map_after empty_map (drawn_by lines n)) marks
  pub count : length waits ≡ queue_count
  pub waits_are : (q : ℕ) → q < queue_count → slice_index_or waits q false ≡ nat_lt 0 (waiting_on q lines n)

pub record IsRunning (fuse : FuseName) (start : State) (lines : List LooseLine) (n : ℕ) (r : Running) : Type 0 where
  pub run : HasRun fuse start lines n (queues_state r.queues)
  pub kept : AreKept lines n r.marks.items r.waits.items
