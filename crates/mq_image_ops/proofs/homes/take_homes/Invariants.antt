use Rattle.std.specs.Vec.Iter.{into_iter_items}
use Rattle.mq_image.specs.File.{queue_ports, root_port}
use Rattle.mq_image_ops.proofs.ViewsHomeBlocks.{AreTakenTo}
use Rattle.mq_image_ops.proofs.homes.take_homes.Given as goal

abbrev pub invariant-loop-queue : goal.invariant-loop-queue
invariant-loop-queue l = AreTakenTo l.geometry (root_port l.fn.image).blocks (queue_ports l.fn.image) (into_iter_items l.queue-iterator) l.blocks.items
