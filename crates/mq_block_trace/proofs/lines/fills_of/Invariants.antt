use Rattle.std.proofs.Common.{◌≡◌, ◌<◌, ◌≤◌, ℕ, length, drop, get_or, None}
use Rattle.mq_block_trace.specs.Lines.{set_in}
use Rattle.mq_block_trace.proofs.lines.fills_of.Given as goal

-- the fills are those of the items from k on
abbrev pub invariant-loop-k : goal.invariant-loop-k
invariant-loop-k l = record {
  within : l.k ≤ length l.items;
  whole : length l.fills.items ≡ 256;
  fills : (b : ℕ) → b < 256 → get_or l.fills.items b None ≡ set_in (drop l.k l.items) b;
}

abbrev pub decreases-loop-k : goal.decreases-loop-k
decreases-loop-k l = l.k
