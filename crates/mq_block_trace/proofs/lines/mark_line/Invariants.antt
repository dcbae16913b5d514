use Rattle.std.proofs.Common.{◌≡◌, ◌<◌, ◌≤◌, ℕ, false, length, drop, get_or}
use Rattle.mq_block_trace.specs.Marks.{marked}
use Rattle.mq_block_trace.proofs.lines.mark_line.Given as goal

-- the marks are those after the items from k on
abbrev pub invariant-loop-k : goal.invariant-loop-k
invariant-loop-k l = record {
  within : l.k ≤ length l.items;
  whole : length l.marks.items ≡ 256;
  marks : (b : ℕ) → b < 256 → get_or l.marks.items b false ≡ marked (drop l.k l.items) b (get_or l.fn.marks.items b false);
}

abbrev pub decreases-loop-k : goal.decreases-loop-k
decreases-loop-k l = l.k
