use Rattle.std.specs.Prelude.{◌≡◌, ◌++◌}
use Rattle.std.specs.Vec.Iter.{into_iter_items}
use Rattle.mq_image_ops.specs.Cuts.{AreCutPorts}
use Rattle.mq_image_ops.proofs.cut.cut_ports.Given as goal

abbrev pub invariant-loop-port : goal.invariant-loop-port
invariant-loop-port l = AreCutPorts l.pick l.yielded l.images.items l.seats.items × (l.fn.ports.queues.items ≡ l.yielded ++ into_iter_items l.port-iterator)
