use Rattle.std.proofs.Common.{◌≡◌, ◌++◌, map, Some}
use Rattle.mq_layout.specs.Slots.{Entry}
use Rattle.mq_tree.specs.Directories.{as_slots}
use Rattle.mq_tree.specs.ListText.{entry_of_link}
use Rattle.mq_tree.proofs.directory.Directory.links.Given as goal

abbrev pub invariant-loop-name : goal.invariant-loop-name
invariant-loop-name l = map (λ (e : Entry). Some e) (map entry_of_link l.found.items) ++ as_slots l.name-iterator ≡ l.self
