-- Why a transaction is refused.
use Rattle.std.specs.Prelude.{◌≡◌, ℕ, List, Result, Ok, Err}
use Rattle.mq_drive.specs.Steps.{PortFault, PowerOff, CommandError, Gains}
use Rattle.mq_command_blocks.specs.declared.line.Refusal.{Refusal}
use Rattle.mq_command_blocks.specs.declared.line.Refusal.TheVariants.{Off, Failed}
use Rattle.mq_command_blocks.specs.declared.commit.TextRefusal.{TextRefusal}
use Rattle.mq_command_blocks.specs.declared.commit.TextRefusal.TheVariants as text

-- each refusal is one more fault of its port, and an Ok is none
abbrev pub HasCause : {A : Type 0} → Result A Refusal → List PortFault → List PortFault → Type 0
HasCause (Ok _) old new = new ≡ old
HasCause (Err Off) old new = Gains PowerOff old new
HasCause (Err (Failed status)) old new = (tx : ℕ) × Gains (CommandError tx status) old new

abbrev pub text_refusal : Refusal → TextRefusal
text_refusal Off = text.Off
text_refusal (Failed status) = text.Failed status

-- a text's refusal is its line's, or out of memory, which is no fault
abbrev pub HasTextCause : {A : Type 0} → Result A TextRefusal → List PortFault → List PortFault → Type 0
HasTextCause (Ok _) old new = new ≡ old
HasTextCause (Err text.Off) old new = Gains PowerOff old new
HasTextCause (Err (text.Failed status)) old new = (tx : ℕ) × Gains (CommandError tx status) old new
HasTextCause (Err text.OutOfMemory) old new = new ≡ old
