-- What the answers of a port mean.
use Rattle.std.specs.Prelude.{◌≡◌, ◌≢◌, ◌⊎◌, ◌≤◌, ◌-◌, ◌%◌, ◌^◌, length, ℕ, List, [], ◌∷◌, ◌++◌, Result, Ok, Err, Some, slice_get}
use Rattle.mq_blocks.specs.Drive.{PortState, Owns, after_done, after_failed, after_begin, after_end}
use Rattle.mq_blocks.specs.Limits.{depth}
use Rattle.mq_blocks.specs.declared.command.Command.{Command}
use Rattle.mq_nvme.specs.Entry.{IsWrite}
use Rattle.mq_nvme.specs.Completion.{status_of, identifier_of}
use Rattle.mq_nvme.specs.declared.write.WriteReq.{WriteReq}
use Rattle.mq_drive.specs.declared.port.Off.{Off}
use Rattle.mq_drive.specs.declared.port.Step.{Step}
use Rattle.mq_drive.specs.declared.port.Step.TheVariants.{Idle, Done}
use Rattle.mq_drive.specs.declared.port.HomeStep.{HomeStep}
use Rattle.mq_drive.specs.declared.port.HomeStep.TheVariants as home

-- a fault of a port: the power went off, a command of a transaction ended with an error, or a home
-- write did
pub data PortFault : Type 0 where
  PowerOff : PortFault
  CommandError : (tx status : ℕ) → PortFault
  HomeError : (lba status : ℕ) → PortFault

-- the same faults and one more, anywhere among them
pub record IsWithOneMore (f : PortFault) (old new : List PortFault) : Type 0 where
  pub before : List PortFault
  pub after : List PortFault
  pub old_is : old ≡ before ++ after
  pub new_is : new ≡ before ++ f ∷ after

-- one more fault, unless there are as many as a count of 64 bits can say
abbrev pub Gains : PortFault → List PortFault → List PortFault → Type 0
Gains f old new = IsWithOneMore f old new ⊎ ((2 ^ 64 - 1 ≤ length old) × (new ≡ old))

-- an `Off` is one more fault, and an Ok is none
abbrev pub OffCause : {A : Type 0} → Result A Off → List PortFault → List PortFault → Type 0
OffCause (Ok _) old new = new ≡ old
OffCause (Err _) old new = Gains PowerOff old new

-- the entry is that of a write in its slot, of a block of this port
pub record IsOwnWrite (s : PortState) (at : ℕ) (entry : List ℕ) : Type 0 where
  pub request : WriteReq
  pub write : IsWrite entry request
  pub slot : request.slot ≡ at % depth
  pub own : Owns s request.lba

-- a posted command has ended, with success or with an error, as its completion says
pub record Ends (old : PortState) (faults : List PortFault) (c : List ℕ) (new : PortState)
    (more : List PortFault) : Type 0 where
  pub at : ℕ
  pub command : Command
  pub posted : slice_get old.posted at ≡ Some command
  pub identifier : identifier_of c ≡ command.count % depth
  pub success : status_of c ≡ 0 → (new ≡ after_done old at command) × (more ≡ faults)
  pub error : status_of c ≢ 0
      → (new ≡ after_failed old at command) × Gains (CommandError command.tx (status_of c)) faults more

abbrev pub StepGives : PortState → List PortFault → Result Step Off → PortState → List PortFault → Type 0
StepGives old faults (Ok Idle) new more = (old.posted ≡ []) × (new ≡ old) × (more ≡ faults)
StepGives old faults (Ok (Done c)) new more = Ends old faults c new more
StepGives old faults (Err _) new more = (old.posted ≢ []) × (new ≡ old) × Gains PowerOff faults more

-- a home write has ended, with success or with an error, or the power went off before it began or
-- before it ended
abbrev pub HomeGives : PortState → List PortFault → ℕ → List ℕ → Result HomeStep Off → PortState
    → List PortFault → Type 0
HomeGives old faults lba block (Ok home.Done) new more =
    (new ≡ after_end (after_begin old lba block) lba block) × (more ≡ faults)
HomeGives old faults lba block (Ok (home.Error status)) new more =
    (status ≢ 0) × (new ≡ after_begin old lba block) × Gains (HomeError lba status) faults more
HomeGives old faults lba block (Err _) new more =
    ((new ≡ old) ⊎ (new ≡ after_begin old lba block)) × Gains PowerOff faults more
