-- What a drain comes to.
use Rattle.std.specs.Prelude.{◌≡◌, ◌≢◌, ◌⊎◌, ◌<◌, ◌≤◌, ◌+◌, ◌-◌, ◌^◌, ◌++◌, ℕ, Bool, true, false, List, [], ◌∷◌, length, map, Option, Some, None, Result, Ok, Err, nat_eq, nat_le, if◌then◌else◌}
use Rattle.mq_blocks.specs.Drive.{IsBoundKept, counted, after_store_head}
use Rattle.mq_blocks.specs.declared.command.Command.{Command}
use Rattle.mq_drive.specs.Steps.{PortFault, CommandError, PowerOff, Gains}
use Rattle.mq_drive.specs.declared.port.Off.{Off}
use Rattle.mq_ledger.specs.KnownJournal.{KnownJournal, LogOk}
use Rattle.mq_ledger.specs.declared.tx.Tx.{Tx}
use Rattle.mq_pmr.specs.Rungs.{last_leading, left_after, is_clear}
use Rattle.mq_queue_side.specs.Side.{SideState, IsQueueSide}
use Rattle.mq_queue_side.specs.declared.answers.Why.{Why}
use Rattle.mq_queue_side.specs.declared.answers.Why.TheVariants.{Status}
use Rattle.mq_queue_side.specs.declared.answers.Why.TheVariants as why
use Rattle.mq_queue_side.specs.declared.answers.Cause.{Cause}
use Rattle.mq_queue_side.specs.declared.answers.Cause.TheVariants.{Failed, FailedHome, Stopped}
use Rattle.mq_queue_side.specs.declared.answers.Cause.TheVariants as cause

-- ---- the commands that end with an error in a call

-- in their order, each with its transaction's number and its status
abbrev pub Failures : Type 0
Failures = List (ℕ × ℕ)

-- what is kept once a command of this transaction has failed: the least transaction of those that failed,
-- with the status that was first taken of it
abbrev pub kept_with : Option (ℕ × Why) → ℕ → ℕ → Option (ℕ × Why)
kept_with None tx status = Some (tx, Status status)
kept_with (Some (n, why.Off)) tx status = Some (tx, Status status)
kept_with (Some (n, Status s)) tx status =
    if nat_le n tx then Some (n, Status s) else Some (tx, Status status)

abbrev pub kept_after : Option (ℕ × Why) → Failures → Option (ℕ × Why)
kept_after kept [] = kept
kept_after kept (f ∷ fs) = kept_after (kept_with kept f.0 f.1) fs

-- each is one more fault
abbrev pub AreGained : Failures → List PortFault → List PortFault → Type 0
AreGained [] old new = new ≡ old
AreGained (f ∷ fs) old new =
    (mid : List PortFault) × Gains (CommandError f.0 f.1) old mid × AreGained fs mid new

abbrev pub numbers_of : List Command → List ℕ
numbers_of cs = map (λ c. c.tx) cs

-- These failures and no others were taken, and the faults came to these by them.
pub record Takes (old : SideState) (failures : Failures) (faults : List PortFault)
    (new : SideState) : Type 0 where
  pub failed : numbers_of new.port.failed ≡ numbers_of old.port.failed ++ map (λ f. f.0) failures
  pub gained : AreGained failures old.faults faults
  pub kept : new.kept ≡ kept_after old.kept failures

-- ---- completing

-- whether any was taken
abbrev pub HasTaken : Failures → Bool → Type 0
HasTaken failures true = failures ≢ []
HasTaken failures false = failures ≡ []

-- what completing leaves as it was
pub record SameEnds (old new : SideState) : Type 0 where
  pub geometry : new.geometry ≡ old.geometry
  pub queue : new.queue ≡ old.queue
  pub passed : new.passed ≡ old.passed
  pub rung : new.rung ≡ old.rung
  pub done : new.done ≡ old.done
  pub head : new.port.head ≡ old.port.head
  pub stored : new.port.stored_head ≡ old.port.stored_head
  pub doorbell : new.port.doorbell ≡ old.port.doorbell
  pub rings : new.port.rings ≡ old.port.rings
  pub bound : IsBoundKept old.port new.port

abbrev pub CompletesTo : Failures → List PortFault → Result Bool Off → SideState → Type 0
CompletesTo failures faults (Ok failed) new =
    (new.port.posted ≡ []) × (new.faults ≡ faults) × HasTaken failures failed
CompletesTo failures faults (Err _) new = Gains PowerOff faults new.faults

pub record Completes (old : SideState) (result : Result Bool Off) (new : SideState) : Type 0 where
  pub failures : Failures
  pub faults : List PortFault
  pub takes : Takes old failures faults new
  pub ends : CompletesTo failures faults result new
  pub same : SameEnds old new

-- ---- the head moves on

-- past each leading transaction whose commands all succeeded
abbrev pub AdvancesTo : {A : Type 0} → SideState → Result A Off → SideState → Type 0
AdvancesTo old (Ok _) new =
    (new.passed ≡ last_leading (is_clear old.port) old.passed old.rung)
    × (new.rung ≡ left_after (is_clear old.port) old.rung)
    × (new.port.head ≡ new.passed.end) × (new.done ≡ new.passed.tx) × (new.faults ≡ old.faults)
AdvancesTo old (Err _) new = (new.done ≡ old.done) × Gains PowerOff old.faults new.faults

pub record Advances {A : Type 0} (old : SideState) (result : Result A Off) (new : SideState) : Type 0 where
  pub ends : AdvancesTo old result new
  pub geometry : new.geometry ≡ old.geometry
  pub queue : new.queue ≡ old.queue
  pub posted : new.port.posted ≡ old.port.posted
  pub failed : new.port.failed ≡ old.port.failed
  pub kept : new.kept ≡ old.kept
  pub doorbell : new.port.doorbell ≡ old.port.doorbell
  pub rings : new.port.rings ≡ old.port.rings
  pub bound : IsBoundKept old.port new.port

-- ---- draining

-- nothing is posted, and the flushed head is past each leading transaction whose commands all succeeded
pub record IsDrained (old new : SideState) : Type 0 where
  pub posted : new.port.posted ≡ []
  pub passed : new.passed ≡ last_leading (is_clear new.port) old.passed old.rung
  pub rung : new.rung ≡ left_after (is_clear new.port) old.rung
  pub head : new.port.head ≡ new.passed.end
  pub done : new.done ≡ new.passed.tx

abbrev pub DrainsTo : SideState → Failures → List PortFault → Result ℕ Cause → SideState → Type 0
DrainsTo old failures faults (Ok n) new =
    (failures ≡ []) × (new.kept ≡ None) × (n ≡ new.done) × (new.faults ≡ faults) × IsDrained old new
DrainsTo old failures faults (Err (Failed tx status)) new =
    (failures ≢ []) × (new.kept ≡ Some (tx, Status status)) × (new.faults ≡ faults) × IsDrained old new
DrainsTo old failures faults (Err (Stopped tx w)) new =
    (failures ≡ []) × (new.kept ≡ Some (tx, w)) × (new.faults ≡ faults) × IsDrained old new
DrainsTo old failures faults (Err cause.Off) new = Gains PowerOff faults new.faults × (new.done ≡ old.done)
DrainsTo old failures faults (Err (FailedHome block status)) new = ⊥

pub record Drains (old : SideState) (result : Result ℕ Cause) (new : SideState) : Type 0 where
  pub failures : Failures
  pub faults : List PortFault
  pub takes : Takes old failures faults new
  pub ends : DrainsTo old failures faults result new
  pub geometry : new.geometry ≡ old.geometry
  pub queue : new.queue ≡ old.queue
  pub doorbell : new.port.doorbell ≡ old.port.doorbell
  pub rings : new.port.rings ≡ old.port.rings
  pub bound : IsBoundKept old.port new.port

-- At Ok the flushed head is at the doorbell: whatever is known, all that was rung is done.
abbrev pub IsWhole : SideState → SideState → Type 0
IsWhole old new =
    (q : ℕ) (k : KnownJournal) (us : List Tx) → LogOk k → IsQueueSide k q us old
    → new.port.head ≡ new.port.doorbell

-- there are more faults, or as many as a count of 64 bits can say
abbrev pub Rises : List PortFault → List PortFault → Type 0
Rises old new = (length old ≤ length new) × ((length old < length new) ⊎ (2 ^ 64 - 1 ≤ length old))

-- `Off` and `Failed` come only where there are more faults
abbrev pub DrainCause : Result ℕ Cause → List PortFault → List PortFault → Type 0
DrainCause (Ok n) old new = new ≡ old
DrainCause (Err cause.Off) old new = Rises old new
DrainCause (Err (Failed tx status)) old new = Rises old new
DrainCause (Err (Stopped tx w)) old new = new ≡ old
DrainCause (Err (FailedHome block status)) old new = ⊥

-- what is answered: the failure that is kept, if there is one
abbrev pub stop_of : Bool → ℕ → Why → Cause
stop_of true tx (Status status) = Failed tx status
stop_of true tx why.Off = Stopped tx why.Off
stop_of false tx w = Stopped tx w

abbrev pub answer_of : Bool → ℕ → Option (ℕ × Why) → Result ℕ Cause
answer_of failed done None = Ok done
answer_of failed done (Some w) = Err (stop_of failed w.0 w.1)

-- ---- the events that happen

-- so many events happened on the port, and no home write began
abbrev pub HasMade : ℕ → SideState → SideState → Type 0
HasMade n old new = (new.port.events ≡ counted old.port.events n) × (new.port.begins ≡ old.port.begins)

-- so many of the posted commands ended, each in an event
pub record HasEnded (old new : SideState) : Type 0 where
  pub ended : ℕ
  pub left : ended + length new.port.posted ≡ length old.port.posted
  pub made : HasMade ended old new

-- the head was stored and flushed where it was not there already; where the power went off, nothing
-- happened, or it was stored past each leading transaction whose commands all succeeded
abbrev pub MovesHead : {A : Type 0} → SideState → Result A Off → SideState → Type 0
MovesHead old (Ok _) new = HasMade (if nat_eq old.port.head new.port.head then 0 else 2) old new
MovesHead old (Err _) new =
    (new.port ≡ old.port)
    ⊎ ((new.port ≡ after_store_head old.port new.passed.end)
    × (new.passed ≡ last_leading (is_clear old.port) old.passed old.rung))

-- Every posted command ended in an event, and the head moved in two where it moved.
abbrev pub HasDrained : SideState → SideState → Type 0
HasDrained old new =
    HasMade (length old.port.posted + (if nat_eq old.port.head new.port.head then 0 else 2)) old new

-- the power went off before the head was stored
pub record IsCutBefore (old new : SideState) : Type 0 where
  pub ended : HasEnded old new
  pub head : new.port.head ≡ old.port.head
  pub stored : new.port.stored_head ≡ old.port.stored_head

-- it went off when the head was stored and not flushed
pub record IsCutBetween (old new : SideState) : Type 0 where
  pub posted : new.port.posted ≡ []
  pub made : HasMade (length old.port.posted + 1) old new
  pub head : new.port.head ≡ old.port.head
  pub stored : new.port.stored_head ≡ new.passed.end
  pub passed : new.passed ≡ last_leading (is_clear new.port) old.passed old.rung

-- how many events a drain makes
abbrev pub DrainMakes : SideState → Result ℕ Cause → SideState → Type 0
DrainMakes old (Err cause.Off) new = IsCutBefore old new ⊎ IsCutBetween old new
DrainMakes old (Err (Failed tx status)) new = HasDrained old new
DrainMakes old (Err (Stopped tx w)) new = HasDrained old new
DrainMakes old (Err (FailedHome block status)) new = ⊥
DrainMakes old (Ok n) new = HasDrained old new
