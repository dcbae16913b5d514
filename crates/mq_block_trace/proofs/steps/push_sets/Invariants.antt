use Rattle.std.proofs.Common.{◌≡◌, ◌++◌, ◌-◌, get_or, None}
use Rattle.mq_block_trace.specs.Lines.{named}
use Rattle.mq_block_trace.proofs.Pushed.{sets_text}
use Rattle.mq_block_trace.proofs.steps.push_sets.Given as goal

abbrev pub invariant-loop-b : goal.invariant-loop-b
invariant-loop-b l =
    l.out.items ++ sets_text (λ b. get_or l.fills b None) l.b (named - l.b) ≡ l.fn.out.items ++ sets_text (λ b. get_or l.fills b None) 0 named
