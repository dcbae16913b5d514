use Rattle.std.proofs.Common.{◌≡◌, ◌<◌, ℕ, false, cond, length, drop, get_or}
use Rattle.mq_blocks.specs.Journal.{is_among}
use Rattle.mq_loose_run.proofs.marks.unmark.Given as goal

-- with the rest set so, the marks are those with all set so
abbrev pub invariant-loop-block : goal.invariant-loop-block
invariant-loop-block l = record {
  whole : length l.marks.items ≡ 256;
  rest : (b : ℕ) → b < 256
      → cond (is_among b l.frees) false (get_or l.fn.marks.items b false) ≡ cond (is_among b (drop l.block-index l.frees)) false (get_or l.marks.items b false);
}
