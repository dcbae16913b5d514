use Rattle.mq_image_ops.specs.Empty.{AreBlankQueues}
use Rattle.mq_image_ops.proofs.format.blank_queues.Given as goal

abbrev pub invariant-loop-q : goal.invariant-loop-q
invariant-loop-q l = AreBlankQueues l.geometry l.q l.ports.items
