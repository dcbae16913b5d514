-- What an emulated port answers and counts beyond what every port does.
use Rattle.std.specs.Prelude.{◌≡◌, ℕ, ◌/◌, ◌%◌, ◌⊎◌, Bool, true, false, List, Option, Result, Ok, Err, nat_eq, if◌then◌else◌}
use Rattle.mq_blocks.specs.Drive.{PortState, counted}
use Rattle.mq_blocks.specs.Limits.{depth}
use Rattle.mq_nvme.specs.Completion.{completion_of, identifier_of}
use Rattle.mq_drive.specs.Limits.{fails_next}
use Rattle.mq_drive.specs.Roles.{id_of}
use Rattle.mq_drive.specs.Seats.{Happens, IsRefused}
use Rattle.mq_drive.specs.declared.port.Off.{Off}
use Rattle.mq_drive.specs.declared.port.Step.{Step}
use Rattle.mq_drive.specs.declared.port.Step.TheVariants.{Idle, Done}
use Rattle.mq_drive.specs.declared.port.HomeStep.{HomeStep}
use Rattle.mq_drive.specs.declared.port.HomeStep.TheVariants as home

-- the commands that a port executed: those of its ring, and these and its home writes together
pub record Counts : Type 0 where
  pub completed : ℕ
  pub executed : ℕ

-- the phase of the completion that follows this number of others: 1 at first, and inverted at each pass
-- through a completion queue of the ring's depth
abbrev pub phase_after : ℕ → Bool
phase_after completed = nat_eq (completed / depth % 2) 0

-- the status of the command that follows `executed` others: Write Fault where it is the one that is to
-- fail, else success
abbrev pub status_after : PortState → ℕ → ℕ
status_after s executed = if fails_next s.fail executed then 640 else 0

-- the completion of the next command of a port's ring, beside the command's identifier
abbrev pub IsNext : PortState → Counts → List ℕ → Type 0
IsNext s n c = c ≡ completion_of record {
  sq_head = s.doorbell % depth;
  sq_id = id_of s.queue;
  cid = identifier_of c;
  phase = phase_after n.completed;
  status = status_after s n.executed;
}

-- what a step counts
abbrev pub StepCounts : PortState → Counts → Result Step Off → Counts → Type 0
StepCounts s n (Ok (Done c)) m =
    IsNext s n c × (m ≡ record { completed = counted n.completed 1; executed = counted n.executed 1 })
StepCounts s n (Ok Idle) m = m ≡ n
StepCounts s n (Err _) m = m ≡ n

-- what a home write counts
abbrev pub HomeCounts : PortState → Counts → Result HomeStep Off → Counts → Type 0
HomeCounts s n (Ok home.Done) m =
    (fails_next s.fail n.executed ≡ false) × (m ≡ record n { executed = counted n.executed 1 })
HomeCounts s n (Ok (home.Error status)) m =
    (fails_next s.fail n.executed ≡ true) × (status ≡ 640)
    × (m ≡ record n { executed = counted n.executed 1 })
HomeCounts s n (Err _) m = m ≡ n

-- the tickets that a step draws: an idle one draws none
abbrev pub StepTickets : Option ℕ → List ℕ → Result Step Off → List ℕ → Type 0
StepTickets limit old (Ok Idle) new = new ≡ old
StepTickets limit old (Ok (Done c)) new = Happens limit old new
StepTickets limit old (Err _) new = IsRefused limit old new

-- a home write is two events, of which the first or the second may be refused
abbrev pub HomeTickets : Option ℕ → List ℕ → Result HomeStep Off → List ℕ → Type 0
HomeTickets limit old (Ok _) new = (mid : List ℕ) × Happens limit old mid × Happens limit mid new
HomeTickets limit old (Err _) new =
    IsRefused limit old new ⊎ ((mid : List ℕ) × Happens limit old mid × IsRefused limit mid new)
