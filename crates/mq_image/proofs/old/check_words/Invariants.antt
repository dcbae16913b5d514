use Rattle.std.proofs.Common.{◌≡◌, ◌-◌}
use Rattle.mq_image.specs.Faults.{old_words_fault}
use Rattle.mq_image.proofs.old.check_words.Given as goal

abbrev pub invariant-loop-queue : goal.invariant-loop-queue
invariant-loop-queue l = old_words_fault (l.queues - l.queue) l.queue l.file ≡ old_words_fault l.queues 0 l.file
