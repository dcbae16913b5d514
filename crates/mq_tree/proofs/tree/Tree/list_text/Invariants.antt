use Rattle.std.proofs.Common.{◌+◌, ◌-◌, drop}
use Rattle.mq_tree.specs.ListText.{name_count, slot_count}
use Rattle.mq_tree.specs.Volume.{body}
use Rattle.mq_tree.proofs.ListText.{Listed}
use Rattle.mq_tree.proofs.tree.Tree.list_text.Given as goal

abbrev pub invariant-loop-i : goal.invariant-loop-i
invariant-loop-i l = Listed l.self (slot_count (drop l.i l.self)) l.text.items l.todo.items

abbrev pub invariant-loop-k : goal.invariant-loop-k
invariant-loop-k l = Listed l.self (name_count (body l.self l.i) - l.k + slot_count (drop (l.i + 1) l.self)) l.text.items l.todo.items
