use Rattle.std.proofs.Common.{◌≡◌, take, Ok}
use Rattle.mq_tree.specs.Requests.{walk}
use Rattle.mq_tree.specs.Volume.{way}
use Rattle.mq_tree.proofs.tree.Tree.walk.Given as goal

abbrev pub invariant-loop-name : goal.invariant-loop-name
invariant-loop-name l = walk l.self (way (take l.name-index l.names)) ≡ Ok l.directory
