use Rattle.std.proofs.Common.{◌≡◌, drop, length}
use Rattle.mq_loose_queues.specs.Changes.{with_changes}
use Rattle.mq_loose_queues.proofs.changes.note.Given as goal

-- the rest of the blocks decides
abbrev pub invariant-loop-block : goal.invariant-loop-block
invariant-loop-block l = record {
  rest : with_changes (drop l.block-index l.blocks) (record { number = l.fn.number; is_there = l.fn.is_there }) l.table ≡ with_changes l.blocks (record { number = l.fn.number; is_there = l.fn.is_there }) l.initial.table;
  whole : length l.table ≡ length l.initial.table;
}
