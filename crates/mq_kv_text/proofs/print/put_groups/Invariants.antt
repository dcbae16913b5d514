use Rattle.std.proofs.Common.{◌≡◌, ◌++◌, drop}
use Rattle.mq_block_text.specs.Refusals.{ended}
use Rattle.mq_kv_text.specs.Reports.{groups_lines}
use Rattle.mq_kv_text.proofs.print.put_groups.Given as goal

-- with the lines of those that are left, it is the whole text
abbrev pub invariant-loop-group : goal.invariant-loop-group
invariant-loop-group l = l.out.items ++ ended 10 (groups_lines (drop l.group-index l.groups)) ≡ l.initial.out.items ++ ended 10 (groups_lines l.groups)
