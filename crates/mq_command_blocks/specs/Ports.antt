-- The port of the one queue of a drive.
use Rattle.std.specs.Prelude.{Option, slice_get}
use Rattle.mq_drive.specs.declared.port.Ports.{Ports}

abbrev pub the_queue : {P : Type 0} → Ports P → Option P
the_queue ports = slice_get ports.queues.items 0
