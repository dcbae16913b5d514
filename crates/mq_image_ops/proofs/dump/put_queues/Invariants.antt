use Rattle.std.proofs.Common.{◌≡◌, ◌++◌, ℕ, List}
use Rattle.mq_blocks.specs.Descriptor.{Descriptor}
use Rattle.mq_blocks.specs.Journal.{AreWhole}
use Rattle.mq_image_ops.specs.Dump.{queues_text}
use Rattle.mq_recover.specs.Drives.{drive_of, view_over}
use Rattle.mq_image_ops.proofs.dump.put_queues.Given as goal

abbrev pub invariant-loop-queue : goal.invariant-loop-queue
invariant-loop-queue g l =
    (chains : ℕ → List Descriptor) → AreWhole l.fn.geometry (view_over l.fn.geometry (drive_of g.P.Port.state l.fn.ports)) chains
    → l.text.items ≡ l.fn.text.items ++ queues_text (view_over l.fn.geometry (drive_of g.P.Port.state l.fn.ports)) chains l.queue
