use Rattle.std.proofs.Common.{◌≡◌, ◌++◌, drop}
use Rattle.mq_block_text.specs.Text.{live_text}
use Rattle.mq_loose_text.specs.Text.{printed}
use Rattle.mq_loose_text.proofs.print.print_loose.Given as goal

-- what is printed, and the lines of the blocks that are left, are all
abbrev pub invariant-loop-block : goal.invariant-loop-block
invariant-loop-block l = l.out.items ++ live_text (drop l.block-index l.live) ≡ printed l.acknowledged l.set l.live
