use Rattle.std.proofs.Common.{◌≡◌, ◌<◌, ℕ, length}
use Rattle.mq_blocks.specs.Blocks.{block_at}
use Rattle.mq_layout.specs.Empty.{empty_block}
use Rattle.mq_image_ops.proofs.format.meta_blocks.Given as goal

abbrev pub invariant-loop-b : goal.invariant-loop-b
invariant-loop-b l = record {
  count : length l.blocks.items ≡ l.b;
  each : (k : ℕ) → k < l.b → block_at l.blocks.items k ≡ empty_block l.geometry k;
}
