-- What there is to say of a text to `audit`, and with which status.
use Rattle.std.specs.Prelude.{ℕ, ◌+◌, List, [], ◌∷◌, ◌++◌, codes, length}
use Rattle.std.specs.Fmt.{decimal}
use Rattle.mq_audit.specs.Findings.{IsSummary, end_of}
use Rattle.mq_audit.specs.Traces.{IsMisread, IsTrace, Trace, start_of}
use Rattle.mq_audit.specs.declared.finding.Finding.{Finding}
use Rattle.mq_audit.specs.declared.finding.Finding.TheVariants.{Accepted, Refused}
use Rattle.mq_core.specs.Machine.{AreAllowed, IsRefusedAt}
use Rattle.mq_ledger.specs.Plain.{plain}

-- ---- the lines

abbrev pub counts_line : (events drawn done : ℕ) → List ℕ
counts_line events drawn done =
    codes "accepted events "
    ++ (decimal events ++ (codes " drawn " ++ (decimal drawn ++ (codes " done " ++ (decimal done ++ codes "\n")))))

-- each number after a space, and the end of the line
abbrev pub spaced_line : List ℕ → List ℕ
spaced_line [] = codes "\n"
spaced_line (n ∷ ns) = 32 ∷ (decimal n ++ spaced_line ns)

abbrev pub waiting_line : List ℕ → List ℕ
waiting_line numbers = codes "unacknowledged" ++ spaced_line numbers

abbrev pub reach_line : (least greatest : ℕ) → List ℕ
reach_line least greatest =
    codes "reach " ++ (decimal least ++ (codes " " ++ (decimal greatest ++ codes "\n")))

-- an event is not allowed
abbrev pub refused_line : ℕ → List ℕ
refused_line line = codes "refused line " ++ (decimal line ++ codes "\n")

-- a line is not in its form
abbrev pub misread_line : ℕ → List ℕ
misread_line line = codes "trace line " ++ (decimal line ++ codes "\n")

-- all events are allowed
abbrev pub accepted_text : (events drawn done : ℕ) → (waiting : List ℕ) → (least greatest : ℕ) → List ℕ
accepted_text events drawn done waiting least greatest =
    counts_line events drawn done ++ (waiting_line waiting ++ reach_line least greatest)

abbrev pub finding_text : Finding → List ℕ
finding_text (Accepted events drawn done waiting least greatest) =
    accepted_text events drawn done waiting.items least greatest
finding_text (Refused line) = refused_line line

-- ---- `audit`

-- The bytes are those of a trace whose events are all allowed, of which this is what is to be said after the
-- last one; or of one with an event that isn't, the first of which has the index, where the first event
-- stands on the third line; or they are no trace, and this is the first line that is not in its form.
pub data Audits (bytes : List ℕ) : (status : ℕ) → (text : List ℕ) → Type 0 where
  accepts : (t : Trace) (drawn done : ℕ) (waiting : List ℕ) (least greatest : ℕ) → IsTrace bytes t
      → AreAllowed plain t.events (start_of t) → IsSummary (end_of t) drawn done waiting least greatest
      → Audits bytes 0 (accepted_text (length t.events) drawn done waiting least greatest)
  refuses : (t : Trace) (index : ℕ) → IsTrace bytes t → IsRefusedAt plain t.events (start_of t) index
      → Audits bytes 0 (refused_line (index + 3))
  misreads : (line : ℕ) → IsMisread bytes line → Audits bytes 2 (misread_line line)
