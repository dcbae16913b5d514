use Rattle.std.proofs.Common.{◌≡◌, ◌<◌, ℕ, true}
use Rattle.mq_tree.specs.Decoded.{volume_in}
use Rattle.mq_tree.specs.Volume.{body, is_used}
use Rattle.mq_tree.specs.Walks.{is_seen}
use Rattle.mq_tree.proofs.reached.check_reached.Given as goal

abbrev pub invariant-loop-i : goal.invariant-loop-i
invariant-loop-i l = (j : ℕ) → j < l.i → is_used (body (volume_in l.fn.geometry l.blocks) j) ≡ true → is_seen l.seen j ≡ true
