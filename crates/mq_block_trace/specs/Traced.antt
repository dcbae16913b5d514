-- The trace of a block text: the events of its lines on the journal's machine.
use Rattle.std.specs.Prelude.{◌≡◌, ◌<◌, ◌≤◌, ℕ, zero, suc, ◌+◌, Bool, true, false, ◌&&◌, List, [], ◌∷◌, ◌++◌, length, replicate, Option, Some, None, is_some, if◌then◌else◌}
use Rattle.mq_blocks.specs.Geometry.{homes_of}
use Rattle.mq_blocks.specs.Journal.{is_among}
use Rattle.mq_blocks.specs.Machine.{Map}
use Rattle.mq_blocks.specs.declared.geometry.Geometry.{Geometry}
use Rattle.mq_block_text.specs.Text.{sets_in}
use Rattle.mq_block_text.specs.declared.item.BlockItem.{BlockItem}
use Rattle.mq_core.specs.Machine.{AreAllowed, run}
use Rattle.mq_core.specs.Reach.{IsReached as IsNumberReached}
use Rattle.mq_core.specs.Start.{start_state}
use Rattle.mq_core.specs.declared.event.Event.{Event}
use Rattle.mq_core.specs.declared.event.Event.TheVariants.{Draw, Stage, Flush, Ring, Complete, StoreHead, FlushHead, Clear, Acknowledge}
use Rattle.mq_ledger.specs.History.{map_after as map_of}
use Rattle.mq_ledger.specs.Plain.{plain}
use Rattle.mq_ledger.specs.State.{State, start_map}
use Rattle.mq_ledger.specs.declared.tx.Tx.{Tx}
use Rattle.mq_block_trace.specs.Lines.{set_in, freed_in, writes_from, named, line_at, map_after}
use Rattle.mq_block_trace.specs.Prefixes.{IsPrefixAt, events_under, places_upto}

-- ---- the transaction of a line

-- the blocks that the line frees and that are in the map, from b on, so many
abbrev pub freed_from : Map → List BlockItem → (b n : ℕ) → List ℕ
freed_from m line b zero = []
freed_from m line b (suc n) =
    if is_some (m b) && is_among b (freed_in line) then b ∷ freed_from m line (b + 1) n
    else freed_from m line (b + 1) n

-- The transaction of a line as the machine draws it over this map. It logs the blocks that the line sets.
-- A block that the line frees and that is not in the map is not named: to free it changes nothing.
abbrev pub drawn_of : Map → (number : ℕ) → List BlockItem → Tx
drawn_of m number line = record {
  number = number;
  queue = 0;
  logged = writes_from (set_in line) 0 named;
  direct = [];
  revoked = [];
  freed = freed_from m line 0 named;
}

abbrev pub drawn_at : List (List BlockItem) → ℕ → Tx
drawn_at lines n = drawn_of (map_after lines n) (n + 1) (line_at lines n)

-- the transactions of the first n lines, newest first
abbrev pub drawn_upto : List (List BlockItem) → ℕ → List Tx
drawn_upto lines zero = []
drawn_upto lines (suc n) = drawn_at lines n ∷ drawn_upto lines n

-- ---- the events

-- the commands from a count on complete in order, so many
abbrev pub completed : (count n : ℕ) → List Event
completed count zero = []
completed count (suc n) = Complete 0 count ∷ completed (count + 1) n

-- so many entries, the first of them of this count, are staged, flushed, rung and completed
abbrev pub executed : (count entries : ℕ) → List Event
executed count entries = replicate entries (Stage 0) ++ Flush 0 ∷ Ring 0 ∷ completed count entries

-- The events of a transaction with such entries: the queue's mark is set to its number, it is drawn and
-- executed, the head is stored behind it and flushed, and it is acknowledged.
abbrev pub tx_events : Tx → (count entries : ℕ) → List Event
tx_events t count entries =
    Clear 0 t.number ∷ Draw t ∷ (executed count entries
    ++ StoreHead 0 (count + entries) ∷ FlushHead 0 ∷ Acknowledge t.number ∷ [])

-- those of the first n lines: each line has an entry for each block that it sets, and its descriptor's
abbrev pub events_upto : List (List BlockItem) → ℕ → List Event
events_upto lines zero = []
events_upto lines (suc n) =
    events_upto lines n ++ tx_events (drawn_at lines n) (places_upto lines n) (sets_in (line_at lines n) + 1)

-- ---- the cut

-- a port does something
abbrev pub is_on_port : Event → Bool
is_on_port (Draw t) = false
is_on_port (Clear q low) = false
is_on_port (Acknowledge n) = false
is_on_port e = true

abbrev pub port_events : List Event → ℕ
port_events [] = 0
port_events (e ∷ es) = if is_on_port e then port_events es + 1 else port_events es

abbrev pub one_more : ℕ → Event → (ℕ → List Event) → List Event
one_more zero e more = []
one_more (suc n) e more = e ∷ more n

-- the events before the first one on a port that comes after so many of them
abbrev pub cut_after : ℕ → List Event → List Event
cut_after n [] = []
cut_after n (e ∷ es) =
    if is_on_port e then one_more n e (λ left. cut_after left es) else e ∷ cut_after n es

-- the trace of a text, up to the cut if there is one
abbrev pub traced : List (List BlockItem) → Option ℕ → List Event
traced lines None = events_upto lines (length lines)
traced lines (Some cut) = cut_after cut (events_upto lines (length lines))

-- ---- what holds of it

-- where it starts: all home blocks are free, and the base is 0
abbrev pub blank_start : Geometry → List (Option (List ℕ))
blank_start g = replicate (homes_of g) None

abbrev pub text_start : Geometry → State
text_start g = start_state g (blank_start g) 0

-- the state after the trace
abbrev pub text_end : Geometry → List (List BlockItem) → Option ℕ → State
text_end g lines cut = run plain (traced lines cut) (text_start g)

-- These events are allowed, and so many of them are on ports. Drawn are the transactions of a prefix of the
-- lines, which make of the empty map what the block machine does. Each number of lines that may stand after
-- the cut is one that an image of the last state reaches.
pub record IsTraceOf (g : Geometry) (lines : List (List BlockItem)) (cut : Option ℕ) (events : List Event)
    : Type 0 where
  pub allowed : AreAllowed plain events (text_start g)
  pub count : port_events events ≡ events_under lines cut
  pub drawn : ℕ
  pub within : drawn ≤ length lines
  pub history : (run plain events (text_start g)).history ≡ drawn_upto lines drawn
  pub maps : (n b : ℕ) → n ≤ length lines → b < homes_of g
      → map_of (start_map (blank_start g)) (drawn_upto lines n) b ≡ map_after lines n b
  pub reached : (p : ℕ) → IsPrefixAt lines cut p → IsNumberReached plain (run plain events (text_start g)) p
