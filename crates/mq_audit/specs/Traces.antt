-- Whole traces: what a text is read as, or its first line that is not in its form.
use Rattle.std.specs.Prelude.{◌≡◌, ◌<◌, ◌≤◌, ◌⊎◌, ℕ, ◌+◌, ◌^◌, ◌==◌, Option, Some, None, Result, Ok, Err, List, [], ◌∷◌, length, codes, replicate, slice_set}
use Rattle.std.specs.List.{slice_split}
use Rattle.std.specs.Option.{option_map}
use Rattle.mq_block_text.specs.Words.{number_in, words_of}
use Rattle.mq_blocks.specs.Geometry.{homes_of}
use Rattle.mq_blocks.specs.declared.geometry.Geometry.{Geometry}
use Rattle.mq_core.specs.Start.{start_state}
use Rattle.mq_core.specs.declared.event.Event.{Event}
use Rattle.mq_core.specs.declared.event.Event.TheVariants.{Draw}
use Rattle.mq_ledger.specs.State.{State}
use Rattle.mq_audit.specs.Answers.{and_then}
use Rattle.mq_audit.specs.Events.{event_in}
use Rattle.mq_audit.specs.Lists.{sets_in, headed}
use Rattle.mq_audit.specs.declared.refusal.TraceRefusal.{TraceRefusal}
use Rattle.mq_audit.specs.declared.refusal.TraceRefusal.TheVariants.{Line, OutOfMemory}

pub record Trace : Type 0 where
  pub geometry : Geometry
  pub base : ℕ
  -- the home blocks at the start
  pub start : List (Option (List ℕ))
  pub events : List Event

-- the state before the first event
abbrev pub start_of : Trace → State
start_of t = start_state t.geometry t.start t.base

-- ---- the events

-- the number that was drawn last after an event, where this was the last one before it
abbrev pub last_after : Event → ℕ → ℕ
last_after (Draw t) last = last + 1
last_after e last = last

-- these events, and then those
abbrev pub onto : Event → Result (List Event) ℕ → Result (List Event) ℕ
onto e (Ok events) = Ok (e ∷ events)
onto e (Err line) = Err line

-- an event, and what follows it, or the line is refused
abbrev pub stepped : ℕ → Option Event → (Event → Result (List Event) ℕ) → Result (List Event) ℕ
stepped line None more = Err line
stepped line (Some e) more = onto e (more e)

-- The events of these lines, or the first of them that is not in its form. They follow the number that was
-- drawn last, and the first of them has this number in the text.
abbrev pub steps_in : Geometry → (last line : ℕ) → List (List ℕ) → Result (List Event) ℕ
steps_in g last line [] = Ok []
steps_in g last line (text ∷ lines) =
    stepped line (event_in g (last + 1) text) (λ e. steps_in g (last_after e last) (line + 1) lines)

-- ---- the start

-- each block gets its content
abbrev pub placed : List (ℕ × List ℕ) → List (Option (List ℕ)) → List (Option (List ℕ))
placed [] blocks = blocks
placed (s ∷ sets) blocks = placed sets (slice_set blocks s.0 (Some s.1))

-- each block is one of so many
abbrev pub AreBelow : ℕ → List (ℕ × List ℕ) → Type 0
AreBelow end [] = Unit {0}
AreBelow end (s ∷ sets) = (s.0 < end) × AreBelow end sets

-- the home blocks at the start: all others are free
abbrev pub start_in : Geometry → List ℕ → Option (List (Option (List ℕ)))
start_in g line =
    and_then (headed (codes "start") (words_of line)) (λ words.
    option_map (λ sets. placed sets (replicate (homes_of g) None)) (sets_in g 0 words))

-- ---- the geometry and the base

abbrev pub numbers_in : List (List ℕ) → Option (List ℕ)
numbers_in [] = Some []
numbers_in (w ∷ ws) = and_then (number_in w) (λ n. option_map (λ ns. n ∷ ns) (numbers_in ws))

-- the line gives this geometry and this base
pub record IsHead (line : List ℕ) (g : Geometry) (base : ℕ) : Type 0 where
  pub low : base ≤ 2 ^ 62
  pub words : and_then (headed (codes "geometry") (words_of line)) (λ words. numbers_in words)
      ≡ Some (g.queues ∷ g.area ∷ g.meta ∷ g.zone ∷ base ∷ [])

-- ---- the lines

-- all parts but the last
abbrev pub before_last : List (List ℕ) → List (List ℕ)
before_last [] = []
before_last (p ∷ []) = []
before_last (p ∷ q ∷ parts) = p ∷ before_last (q ∷ parts)

-- the last part
abbrev pub last_of : List (List ℕ) → List ℕ
last_of [] = []
last_of (p ∷ []) = p
last_of (p ∷ q ∷ parts) = last_of (q ∷ parts)

-- the lines, each ended by a line feed, and what follows the last line feed
abbrev pub lines_of : List ℕ → List (List ℕ)
lines_of bytes = before_last (slice_split (λ b. b == 10) bytes)

abbrev pub tail_of : List ℕ → List ℕ
tail_of bytes = last_of (slice_split (λ b. b == 10) bytes)

-- ---- whole traces

-- what follows the last line feed is no line
abbrev pub ended : ℕ → List ℕ → Result (List Event) ℕ → Result (List Event) ℕ
ended line tail (Err refused) = Err refused
ended line [] (Ok events) = Ok events
ended line (b ∷ tail) (Ok events) = Err line

abbrev pub with_events : Geometry → ℕ → List (Option (List ℕ)) → Result (List Event) ℕ
    → Result Trace ℕ
with_events g base start (Err line) = Err line
with_events g base start (Ok events) =
    Ok (record { geometry = g; base = base; start = start; events = events })

abbrev pub started : Geometry → ℕ → List (List ℕ) → List ℕ → Option (List (Option (List ℕ))) → Result Trace ℕ
started g base lines tail None = Err 2
started g base lines tail (Some start) =
    with_events g base start (ended (length lines + 3) tail (steps_in g base 3 lines))

-- the trace of this geometry and base, by the lines from the second on
abbrev pub rest_in : Geometry → ℕ → List (List ℕ) → List ℕ → Result Trace ℕ
rest_in g base [] tail = Err 2
rest_in g base (line ∷ lines) tail = started g base lines tail (start_in g line)

-- the first line is missing, or gives no geometry and base
abbrev pub HasNoHead : List (List ℕ) → Type 0
HasNoHead lines =
    (head : List ℕ) (rest : List (List ℕ)) (g : Geometry) (base : ℕ) → lines ≡ head ∷ rest
    → IsHead head g base → ⊥

-- the first line gives this geometry and base, and the others this answer
pub record HasHead (bytes : List ℕ) (answer : Result Trace ℕ) : Type 0 where
  pub head : List ℕ
  pub lines : List (List ℕ)
  pub geometry : Geometry
  pub base : ℕ
  pub are : lines_of bytes ≡ head ∷ lines
  pub is : IsHead head geometry base
  pub rest : rest_in geometry base lines (tail_of bytes) ≡ answer

-- the text is this trace
abbrev pub IsTrace : List ℕ → Trace → Type 0
IsTrace bytes t = HasHead bytes (Ok t)

-- this is the first line that is not in its form
abbrev pub IsMisread : List ℕ → ℕ → Type 0
IsMisread bytes line = ((line ≡ 1) × HasNoHead (lines_of bytes)) ⊎ HasHead bytes (Err line)

-- what is read is the trace, or the first line that is not in its form; out of memory says nothing
abbrev pub IsReading : List ℕ → Result Trace TraceRefusal → Type 0
IsReading bytes (Ok t) = IsTrace bytes t
IsReading bytes (Err (Line line)) = IsMisread bytes line
IsReading bytes (Err OutOfMemory) = Unit {0}

abbrev pub Gives : {A : Type 0} → Result A ℕ → Result A TraceRefusal → Type 0
Gives answer (Ok x) = answer ≡ Ok x
Gives answer (Err (Line line)) = answer ≡ Err line
Gives answer (Err OutOfMemory) = Unit {0}

-- the line that is refused is this one
abbrev pub Refuses : {A : Type 0} → Result A ℕ → TraceRefusal → Type 0
Refuses answer (Line line) = answer ≡ Err line
Refuses answer OutOfMemory = Unit {0}
