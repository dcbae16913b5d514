use Rattle.mq_image.specs.Reads.{AreAreasRead}
use Rattle.mq_image.proofs.read.read_queues.Given as goal

abbrev pub invariant-loop-queue : goal.invariant-loop-queue
invariant-loop-queue l = AreAreasRead l.header.version l.header.geometry l.file l.queue l.fn.place l.place l.ports.items
