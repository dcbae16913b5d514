use Rattle.std.proofs.Common.{◌-◌}
use Rattle.mq_layout.specs.Places.{inodes_of}
use Rattle.mq_tree.specs.Decoded.{volume_in}
use Rattle.mq_tree.specs.Walks.{Walked}
use Rattle.mq_tree.proofs.walk.walk_all.Given as goal

abbrev pub invariant-loop-done : goal.invariant-loop-done
invariant-loop-done l = Walked (volume_in l.geometry l.blocks) (inodes_of l.geometry) l.walk.seen.items l.walk.order.items l.done 0

abbrev pub decreases-loop-done : goal.decreases-loop-done
decreases-loop-done l = inodes_of l.geometry - l.done
