use Rattle.std.proofs.Common.{◌≡◌, ◌≤◌, ◌+◌, ◌-◌, ◌++◌, get_or, None}
use Rattle.mq_command_blocks.specs.Commits.{copies_from}
use Rattle.mq_block_trace.specs.Lines.{writes_from, named}
use Rattle.mq_command_blocks.proofs.items.copies.Given as goal

abbrev pub invariant-loop-b : goal.invariant-loop-b
invariant-loop-b l = record {
  few : l.place ≤ l.fn.place + l.b;
  is : copies_from l.geometry l.fn.place (writes_from (λ b. get_or l.fills b None) 0 named) ≡ l.items.items ++ copies_from l.geometry l.place (writes_from (λ b. get_or l.fills b None) l.b (named - l.b));
}
