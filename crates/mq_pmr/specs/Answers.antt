-- What the answer of a step means.
use Rattle.std.specs.Prelude.{◌≡◌, ◌≢◌, ℕ, ◌%◌, List, [], Result, Ok, Err, Some, slice_get}
use Rattle.mq_blocks.specs.Drive.{PortState, after_done, after_failed}
use Rattle.mq_blocks.specs.Limits.{depth}
use Rattle.mq_blocks.specs.declared.command.Command.{Command}
use Rattle.mq_drive.specs.Steps.{PortFault, PowerOff, CommandError, Gains}
use Rattle.mq_drive.specs.declared.port.Off.{Off}
use Rattle.mq_pmr.specs.declared.took.Took.{Took}
use Rattle.mq_pmr.specs.declared.took.Took.TheVariants.{Idle, One, Bad}

-- the posted command in this slot has ended with success
pub record EndsWell (old : PortState) (slot : ℕ) (new : PortState) : Type 0 where
  pub at : ℕ
  pub command : Command
  pub posted : slice_get old.posted at ≡ Some command
  pub slot_is : slot ≡ command.count % depth
  pub is : new ≡ after_done old at command

-- a posted command of this transaction has ended with an error
pub record EndsBadly (old : PortState) (tx : ℕ) (new : PortState) : Type 0 where
  pub at : ℕ
  pub command : Command
  pub posted : slice_get old.posted at ≡ Some command
  pub tx_is : tx ≡ command.tx
  pub is : new ≡ after_failed old at command

abbrev pub TookGives : PortState → List PortFault → Result Took Off → PortState → List PortFault → Type 0
TookGives old faults (Ok Idle) new more = (old.posted ≡ []) × (new ≡ old) × (more ≡ faults)
TookGives old faults (Ok (One slot)) new more = EndsWell old slot new × (more ≡ faults)
TookGives old faults (Ok (Bad tx status)) new more =
    EndsBadly old tx new × (status ≢ 0) × Gains (CommandError tx status) faults more
TookGives old faults (Err _) new more = (old.posted ≢ []) × (new ≡ old) × Gains PowerOff faults more
