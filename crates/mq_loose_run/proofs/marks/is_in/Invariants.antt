use Rattle.std.proofs.Common.{◌≡◌, drop}
use Rattle.mq_blocks.specs.Journal.{is_among}
use Rattle.mq_loose_run.proofs.marks.is_in.Given as goal

-- the rest of the numbers decides
abbrev pub invariant-loop-other : goal.invariant-loop-other
invariant-loop-other l = is_among l.fn.number l.numbers ≡ is_among l.fn.number (drop l.other-index l.numbers)
