use Rattle.std.proofs.Common.{◌≡◌, ◌++◌, ◌-◌}
use Rattle.mq_block_trace.specs.Lines.{named}
use Rattle.mq_block_trace.proofs.Pushed.{drops_text}
use Rattle.mq_block_trace.proofs.steps.push_freed.Given as goal

abbrev pub invariant-loop-b : goal.invariant-loop-b
invariant-loop-b l =
    l.out.items ++ drops_text l.before l.after l.b (named - l.b) ≡ l.fn.out.items ++ drops_text l.before l.after 0 named
