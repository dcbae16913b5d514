-- A port that keeps what is certain, by the port below.
use Rattle.std.specs.Prelude.{List}
use Rattle.mq_blocks.specs.Drive.{PortState}
use Rattle.mq_drive.specs.Steps.{PortFault}
use Rattle.mq_drive.specs.declared.port.Port.{Ghosts}
use Rattle.mq_replica.specs.declared.certain.CertainPort.{CertainPort}

abbrev pub below : {P : Type 0} {G : Ghosts P} → (P → PortState) → CertainPort P G → PortState
below state q = state q.port

abbrev pub faults_below : {P : Type 0} {G : Ghosts P} → (P → List PortFault) → CertainPort P G → List PortFault
faults_below faults q = faults q.port
