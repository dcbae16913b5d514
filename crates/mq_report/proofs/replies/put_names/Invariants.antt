use Rattle.std.proofs.Common.{◌≡◌, ◌++◌, drop}
use Rattle.mq_report.specs.Texts.{after_spaces}
use Rattle.mq_report.proofs.replies.put_names.Given as goal

-- with the names that are left, it is the whole text
abbrev pub invariant-loop-name : goal.invariant-loop-name
invariant-loop-name l = l.out.items ++ after_spaces (drop l.name-index l.names) ≡ l.initial.out.items ++ after_spaces l.names
