-- The faults of a port that refuses a call.
use Rattle.std.specs.Prelude.{Bool, true, false, List, ◌∷◌}
use Rattle.mq_drive.specs.Steps.{PortFault, PowerOff}

-- those of the port below, and one more once the call was refused
abbrev pub with_refused : Bool → List PortFault → List PortFault
with_refused true faults = PowerOff ∷ faults
with_refused false faults = faults
