-- What a write that ended with an error adds to the failed commands, to the home writes that have
-- begun and not ended, and to the faults.
use Rattle.std.specs.Prelude.{ℕ, ◌==◌, if◌then◌else◌, List, [], ◌∷◌, Option, Some, None}
use Rattle.mq_blocks.specs.declared.command.Command.{Command}
use Rattle.mq_blocks.specs.declared.command.HomeWrite.{HomeWrite}
use Rattle.mq_drive.specs.Steps.{PortFault, CommandError, HomeError}
use Rattle.mq_drive.specs.declared.failing.Failure.{Failure}
use Rattle.mq_drive.specs.declared.failing.Failure.TheVariants.{Queued, Home}

abbrev pub failed_of : Option Failure → List Command
failed_of None = []
failed_of (Some (Queued c)) = c ∷ []
failed_of (Some (Home w)) = []

abbrev pub unended_of : Option Failure → List HomeWrite
unended_of None = []
unended_of (Some (Queued c)) = []
unended_of (Some (Home w)) = w ∷ []

abbrev pub errors_of : Option Failure → List PortFault
errors_of None = []
errors_of (Some (Queued c)) = CommandError c.tx 640 ∷ []
errors_of (Some (Home w)) = HomeError w.lba 640 ∷ []

-- the block that it writes
abbrev pub written_by : Failure → ℕ
written_by (Queued c) = c.lba
written_by (Home w) = w.lba

-- what has failed, as long as a block is uncertain because of it
abbrev pub while_in : {A : Type 0} → (doubt : Option ℕ) → List A → List A
while_in None failed = []
while_in (Some k) failed = failed

-- the block that is still uncertain, once a write of the block at this place has completed
abbrev pub doubt_after : Option ℕ → (at : ℕ) → Option ℕ
doubt_after None at = None
doubt_after (Some k) at = if k == at then None else Some k
