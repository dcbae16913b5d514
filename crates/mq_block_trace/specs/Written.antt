-- The text of the trace of a block text.
use Rattle.std.specs.Prelude.{◌+◌, ◌-◌, ◌*◌, ℕ, zero, suc, List, [], ◌∷◌, ◌++◌, Option, codes, decimal, nat_lt, if◌then◌else◌}
use Rattle.mq_audit.specs.Spelled.{event_words}
use Rattle.mq_audit.specs.Traces.{IsTrace, Trace}
use Rattle.mq_blocks.specs.declared.geometry.Geometry.{Geometry}
use Rattle.mq_block_text.specs.declared.item.BlockItem.{BlockItem}
use Rattle.mq_core.specs.declared.event.Event.{Event}
use Rattle.mq_core.specs.declared.event.Event.TheVariants.{Stage, Flush, Ring, Complete, StoreHead, FlushHead}
use Rattle.mq_block_trace.specs.Fresh.{IsTextGeometry}
use Rattle.mq_block_trace.specs.Traced.{IsTraceOf, blank_start, traced}

-- ---- lines

-- each word after a space
abbrev pub spaced : List (List ℕ) → List ℕ
spaced [] = []
spaced (w ∷ words) = 32 ∷ (w ++ spaced words)

-- words with a space between each two, and the end of the line
abbrev pub line_of : List (List ℕ) → List ℕ
line_of [] = 10 ∷ []
line_of (w ∷ words) = w ++ (spaced words ++ 10 ∷ [])

abbrev pub event_line : Event → List ℕ
event_line e = line_of (event_words e)

abbrev pub events_text : List Event → List ℕ
events_text [] = []
events_text (e ∷ events) = event_line e ++ events_text events

abbrev pub head_line : Geometry → List ℕ
head_line g =
    line_of (codes "geometry" ∷ decimal g.queues ∷ decimal g.area ∷ decimal g.meta ∷ decimal g.zone ∷ decimal 0 ∷ [])

-- no home block has a content
abbrev pub start_line : List ℕ
start_line = line_of (codes "start" ∷ [])

-- these events from a drive on which all home blocks are free and the base is 0
abbrev pub trace_text : Geometry → List Event → List ℕ
trace_text g events = head_line g ++ (start_line ++ events_text events)

-- ---- the events on the port

-- Of a transaction with so many entries, the first of them of this count, the event on the port that comes
-- after `at` of them.
abbrev pub step_at : (count entries at : ℕ) → Event
step_at count entries at =
    if nat_lt at entries then Stage 0 else if nat_lt at (entries + 1) then Flush 0
    else if nat_lt at (entries + 2) then Ring 0
    else if nat_lt at (2 * entries + 2) then Complete 0 (count + at - (entries + 2))
    else if nat_lt at (2 * entries + 3) then StoreHead 0 (count + entries)
    else FlushHead 0

-- those from one on, so many
abbrev pub steps_from : (count entries at n : ℕ) → List Event
steps_from count entries at zero = []
steps_from count entries at (suc n) = step_at count entries at ∷ steps_from count entries (at + 1) n

-- ---- the whole trace

-- the events of these lines up to the cut, and where they start
abbrev pub trace_of : Geometry → List (List BlockItem) → Option ℕ → Trace
trace_of g lines cut =
    record { geometry = g; base = 0; start = blank_start g; events = traced lines cut }

-- The bytes are the trace of these lines up to the cut, on the drive of block texts, and what is said of a
-- trace of lines holds of it.
pub record IsTraced (lines : List (List BlockItem)) (cut : Option ℕ) (bytes : List ℕ) : Type 0 where
  pub geometry : Geometry
  pub text : IsTextGeometry geometry
  pub read : IsTrace bytes (trace_of geometry lines cut)
  pub is : IsTraceOf geometry lines cut (traced lines cut)
