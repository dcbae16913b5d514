-- How many events of a port happened.
use Rattle.std.specs.Prelude.{ℕ, ◌+◌, ◌-◌, ◌*◌, List, [], ◌∷◌, length}
use Rattle.mq_blocks.specs.Drive.{PortState, counted}
use Rattle.mq_drive.specs.Steps.{PortFault, PowerOff, CommandError, HomeError}

-- a home write is two events: the second of each one that was cut short was refused
abbrev pub happened_by : ℕ → ℕ → ℕ → ℕ
happened_by events begins cut_short = counted events (2 * begins - cut_short)

-- how many home writes ended with an error
abbrev pub home_errors : List PortFault → ℕ
home_errors [] = 0
home_errors (PowerOff ∷ fs) = home_errors fs
home_errors (CommandError tx status ∷ fs) = home_errors fs
home_errors (HomeError lba status ∷ fs) = 1 + home_errors fs

-- of the home writes that have begun and not ended, those that gave no error were cut short
abbrev pub cut_short : PortState → List PortFault → ℕ
cut_short s faults = length s.begun - home_errors faults

-- the events of the port's own count, and those of its home writes
abbrev pub happened_in : PortState → List PortFault → ℕ
happened_in s faults = happened_by s.events s.begins (cut_short s faults)
