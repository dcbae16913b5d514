use Rattle.std.proofs.Common.{◌+◌, ◌-◌, ◌≤◌}
use Rattle.mq_layout.specs.Bits.{AreSet}
use Rattle.mq_layout.proofs.bits.first_clear.Given as goal

-- the bits so far are set; the last step may go past the end
abbrev pub invariant-loop-at : goal.invariant-loop-at
invariant-loop-at l = record {
  low : l.from ≤ l.at;
  high : l.at ≤ l.from + (l.end - l.from) + 7;
  set : AreSet l.block l.from l.at;
}

abbrev pub decreases-loop-at : goal.decreases-loop-at
decreases-loop-at l = l.end - l.at
