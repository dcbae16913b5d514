use Rattle.std.proofs.Common.{◌≡◌, ◌++◌, drop}
use Rattle.mq_script.proofs.print.put_names.Given as goal
use Rattle.mq_tree.specs.Listings.{names_text}

-- with the text of those that are left, it is the whole text
abbrev pub invariant-loop-name : goal.invariant-loop-name
invariant-loop-name l = l.out.items ++ names_text (drop l.name-index l.names) ≡ l.initial.out.items ++ names_text l.names
