use Rattle.std.proofs.Common.{◌≡◌, ◌++◌, ◌-◌}
use Rattle.mq_block_trace.specs.Written.{events_text, steps_from}
use Rattle.mq_block_trace.proofs.steps.push_steps.Given as goal

abbrev pub invariant-loop-at : goal.invariant-loop-at
invariant-loop-at l =
    l.out.items ++ events_text (steps_from l.tx.count l.tx.entries l.at (l.steps - l.at)) ≡ l.fn.out.items ++ events_text (steps_from l.tx.count l.tx.entries 0 l.steps)
