-- What the machine says of a trace.
use Rattle.std.specs.Prelude.{◌≡◌, ◌<◌, ℕ, ◌+◌, ◌^◌, IsErr, Bool, false, slice_index_or, List, [], ◌∷◌, Result, Ok, Err, filter, not, length}
use Rattle.std.specs.List.{range_with_len}
use Rattle.mq_blocks.specs.Journal.{is_among}
use Rattle.mq_core.specs.Machine.{run, AreAllowed, IsRefusedAt}
use Rattle.mq_core.specs.declared.event.Event.{Event}
use Rattle.mq_core.specs.declared.event.Event.TheVariants.{Acknowledge}
use Rattle.mq_core.specs.declared.event.CoreRefusal.{CoreRefusal}
use Rattle.mq_core.specs.declared.event.CoreRefusal.TheVariants.{NotAllowed, OutOfMemory as NoMemory}
use Rattle.mq_core.specs.Reach.{ReachBetween, IsReached}
use Rattle.mq_ledger.specs.Plain.{plain}
use Rattle.mq_ledger.specs.State.{State, front_of}
use Rattle.mq_audit.specs.Traces.{Trace, IsTrace, IsMisread, start_of}
use Rattle.mq_audit.specs.declared.finding.Finding.{Finding}
use Rattle.mq_audit.specs.declared.finding.Finding.TheVariants.{Accepted, Refused}
use Rattle.mq_audit.specs.declared.refusal.TraceRefusal.{TraceRefusal}
use Rattle.mq_audit.specs.declared.refusal.TraceRefusal.TheVariants.{Line, OutOfMemory as TraceMemory}

-- the number that an event acknowledges, before these
abbrev pub told_more : Event → List ℕ → List ℕ
told_more (Acknowledge n) ns = n ∷ ns
told_more e ns = ns

-- the acknowledged numbers of a list of events, the last first
abbrev pub told_after : List Event → List ℕ → List ℕ
told_after [] ns = ns
told_after (e ∷ events) ns = told_after events (told_more e ns)

abbrev pub told_in : List Event → List ℕ
told_in events = told_after events []

-- the table says of each number after the base whether it is one of these
abbrev pub HasTold : ℕ → List ℕ → List Bool → Type 0
HasTold base ns told =
    (k : ℕ) → k < length told → slice_index_or told k false ≡ is_among (base + k + 1) ns

-- the state after all events
abbrev pub end_of : Trace → State
end_of t = run plain t.events (start_of t)

-- the drawn numbers that aren't acknowledged
abbrev pub waiting : State → List ℕ
waiting s = filter (λ n. not (is_among n s.acknowledged)) (range_with_len (s.base + 1) (length s.history))

-- What is said of the last state: least and greatest are those of the numbers that its images reach.
pub record IsSummary (s : State) (drawn done : ℕ) (unacknowledged : List ℕ) (least greatest : ℕ)
    : Type 0 where
  pub drawn_is : drawn ≡ length s.history
  pub done_is : s.base + done ≡ front_of s
  pub unacknowledged_are : unacknowledged ≡ waiting s
  pub between : ReachBetween plain s least greatest
  pub least_is_reached : IsReached plain s least
  pub greatest_is_reached : IsReached plain s greatest

-- the finding is acceptance, after so many events, with this last state
abbrev pub Accepts : State → ℕ → Finding → Type 0
Accepts s count (Accepted events drawn done unacknowledged least greatest) =
    (events ≡ count) × IsSummary s drawn done unacknowledged.items least greatest
Accepts s count (Refused line) = ⊥

-- The first event stands on the third line.
abbrev pub Finds : Trace → Finding → Type 0
Finds t (Accepted events drawn done unacknowledged least greatest) =
    AreAllowed plain t.events (start_of t) × (events ≡ length t.events)
    × IsSummary (end_of t) drawn done unacknowledged.items least greatest
Finds t (Refused line) = (index : ℕ) × (line ≡ index + 3) × IsRefusedAt plain t.events (start_of t) index

abbrev pub IsAccepted : Finding → Type 0
IsAccepted (Accepted events drawn done unacknowledged least greatest) = Unit {0}
IsAccepted (Refused line) = ⊥

-- ---- refusals of a run

-- the index has a line
abbrev pub IsLow : CoreRefusal → Type 0
IsLow (NotAllowed index) = index + 3 < 2 ^ 64
IsLow NoMemory = Unit {0}

-- the finding is the refusal of the event at the index
abbrev pub Refuses : {E : Type 0} → CoreRefusal → Result Finding E → Type 0
Refuses (NotAllowed index) r = r ≡ Ok (Refused (index + 3))
Refuses NoMemory r = IsErr r

-- ---- audits

-- the finding of the trace, or the first line that is not in its form
abbrev pub IsFinding : List ℕ → Result Finding TraceRefusal → Type 0
IsFinding bytes (Ok f) = (t : Trace) × IsTrace bytes t × Finds t f
IsFinding bytes (Err (Line line)) = IsMisread bytes line
IsFinding bytes (Err TraceMemory) = Unit {0}
