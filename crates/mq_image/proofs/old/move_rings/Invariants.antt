use Rattle.mq_image.specs.Old.{AreMoved}
use Rattle.mq_image.proofs.old.move_rings.Given as goal

abbrev pub invariant-loop-queue : goal.invariant-loop-queue
invariant-loop-queue l = AreMoved l.queue l.fn.ports.items l.ports.items
