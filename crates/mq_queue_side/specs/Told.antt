-- The failure that is kept is one of the faults that the port has gained since the opening.
use Rattle.std.specs.Prelude.{◌⊎◌, ◌≤◌, ◌-◌, ◌^◌, ℕ, List, length, Option, Some, None}
use Rattle.mq_drive.specs.Faults.{AreMore, IsAdded}
use Rattle.mq_drive.specs.Steps.{PortFault, CommandError, PowerOff}
use Rattle.mq_queue_side.specs.Side.{SideState}
use Rattle.mq_queue_side.specs.declared.answers.Why.{Why}
use Rattle.mq_queue_side.specs.declared.answers.Why.TheVariants.{Status, Off}

abbrev pub fault_of : ℕ → Why → PortFault
fault_of n Off = PowerOff
fault_of n (Status s) = CommandError n s

abbrev pub IsKeptAmong : List PortFault → List PortFault → Option (ℕ × Why) → Type 0
IsKeptAmong first faults None = Unit {0}
IsKeptAmong first faults (Some w) = IsAdded (fault_of w.0 w.1) first faults

-- These were the faults at the opening: none of them is gone, and what is kept was added.
pub record IsToldSince (first faults : List PortFault) (kept : Option (ℕ × Why)) : Type 0 where
  pub more : AreMore first faults
  pub added : IsKeptAmong first faults kept

-- This holds until there are as many faults as a count of 64 bits can hold.
abbrev pub IsTold : List PortFault → List PortFault → Option (ℕ × Why) → Type 0
IsTold first faults kept = (2 ^ 64 - 1 ≤ length faults) ⊎ IsToldSince first faults kept

-- whatever the faults at the opening were
abbrev pub KeepsTold : SideState → SideState → Type 0
KeepsTold old new =
    (first : List PortFault) → IsTold first old.faults old.kept → IsTold first new.faults new.kept
