use Rattle.mq_image.specs.Reads.{AreZonesRead}
use Rattle.mq_image.proofs.read.read_zones.Given as goal

abbrev pub invariant-loop-queue : goal.invariant-loop-queue
invariant-loop-queue l = AreZonesRead l.header.version l.header.geometry l.file l.queue l.fn.place l.place l.fn.ports.items l.ports.items
