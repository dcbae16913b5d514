-- How many faults a port has gained, and which.
use Rattle.std.specs.Prelude.{◌≡◌, ◌<◌, ◌≤◌, ℕ, Bool, true, cond, List}
use Rattle.mq_blocks.specs.Totals.{total}
use Rattle.mq_drive.specs.Steps.{PortFault}

-- how many of the faults pass the test
abbrev pub count_of : (PortFault → Bool) → List PortFault → ℕ
count_of f faults = total (λ x. cond (f x) 1 0) faults

-- none of the faults is gone
abbrev pub AreMore : List PortFault → List PortFault → Type 0
AreMore old new = (f : PortFault → Bool) → count_of f old ≤ count_of f new

-- and this one was added to them
abbrev pub IsAdded : PortFault → List PortFault → List PortFault → Type 0
IsAdded x old new = (f : PortFault → Bool) → f x ≡ true → count_of f old < count_of f new
