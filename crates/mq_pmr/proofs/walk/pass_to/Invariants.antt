use Rattle.std.proofs.Common.{◌≡◌, ◌≤◌, ℕ, ◌-◌}
use Rattle.mq_pmr.specs.Slots.{AllDone}
use Rattle.mq_pmr.proofs.walk.pass_to.Given as goal

abbrev pub invariant-walk : goal.invariant-walk
invariant-walk l = record {
  up : l.fn.passed ≤ l.passed;
  all : AllDone l.fn.slots.items l.fn.passed l.passed;
  ring : l.slots ≡ l.fn.slots;
  high : (limit : ℕ) → l.fn.passed ≤ limit → l.fn.end ≤ limit → l.passed ≤ limit;
}

abbrev pub decreases-walk : goal.decreases-walk
decreases-walk l = l.end - l.passed
