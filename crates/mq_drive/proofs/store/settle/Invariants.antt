use Rattle.std.proofs.Common.{◌≡◌, length}
use Rattle.mq_drive.specs.Slots.{AreSettled}
use Rattle.mq_drive.proofs.store.settle.Given as goal

abbrev pub invariant-loop-count : goal.invariant-loop-count
invariant-loop-count l = record {
  same : length l.flushed.items ≡ length l.staged.items;
  settled : AreSettled l.flushed.items l.staged.items l.count l.to;
}
