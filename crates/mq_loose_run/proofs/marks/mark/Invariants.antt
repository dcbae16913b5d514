use Rattle.std.proofs.Common.{◌≡◌, ◌<◌, ℕ, true, false, cond, length, drop, get_or}
use Rattle.mq_blocks.specs.Journal.{is_among}
use Rattle.mq_ledger.specs.History.{blocks_of}
use Rattle.mq_loose_run.proofs.marks.mark.Given as goal

-- with the rest set so, the marks are those with all set so
abbrev pub invariant-loop-block : goal.invariant-loop-block
invariant-loop-block l = record {
  whole : length l.marks.items ≡ 256;
  rest : (b : ℕ) → b < 256
      → cond (is_among b (blocks_of l.writes)) true (get_or l.fn.marks.items b false) ≡ cond (is_among b (blocks_of (drop l.block-index l.writes))) true (get_or l.marks.items b false);
}
