use Rattle.mq_drive.specs.Seats.{name_of}
use Rattle.mq_image_ops.proofs.Starts.{AreSeededTo, AreStartedTo}
use Rattle.mq_image_ops.proofs.ports.start_ports.Given as goal

abbrev pub invariant-loop-q : goal.invariant-loop-q
invariant-loop-q l = AreStartedTo l.geometry (name_of l.fuse) l.fail l.fn.image.ports l.q l.queues.items l.images.items l.seats.items × AreSeededTo l.geometry l.seed l.q l.queues.items
