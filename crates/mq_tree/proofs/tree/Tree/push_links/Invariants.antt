use Rattle.std.proofs.Common.{◌-◌, length}
use Rattle.mq_tree.proofs.ListText.{Pushed}
use Rattle.mq_tree.proofs.tree.Tree.push_links.Given as goal

abbrev pub invariant-loop-k : goal.invariant-loop-k
invariant-loop-k l = Pushed l.from l.to l.links.items (length l.links.items - l.k) l.fn.todo.items l.todo.items
