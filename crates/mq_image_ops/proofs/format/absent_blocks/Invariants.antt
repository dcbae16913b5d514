use Rattle.std.proofs.Common.{◌≡◌, ℕ, length, get_or, None}
use Rattle.mq_image_ops.proofs.format.absent_blocks.Given as goal

abbrev pub invariant-loop-b : goal.invariant-loop-b
invariant-loop-b l = record {
  count : length l.blocks.items ≡ l.b;
  none : (k : ℕ) → get_or l.blocks.items k None ≡ None;
}
