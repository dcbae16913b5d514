use Rattle.std.proofs.Common.{◌≡◌, ◌++◌, drop}
use Rattle.mq_script.specs.Printing.{groups_text}
use Rattle.mq_script.proofs.print.put_groups.Given as goal

-- with the text of those that are left, it is the whole text
abbrev pub invariant-loop-group : goal.invariant-loop-group
invariant-loop-group l = l.out.items ++ groups_text (drop l.group-index l.groups) ≡ l.initial.out.items ++ groups_text l.groups
