use Rattle.std.proofs.Common.{◌≡◌, ◌++◌, drop}
use Rattle.mq_block_text.specs.Text.{live_text}
use Rattle.mq_command_replicate.specs.Replicas.{replica_text}
use Rattle.mq_command_replicate.proofs.lines.print_replica.Given as goal

-- what is printed, and the lines of the blocks that are left, are all
abbrev pub invariant-loop-block : goal.invariant-loop-block
invariant-loop-block l = l.out.items ++ live_text (drop l.block-index l.live) ≡ replica_text l.fn.reached l.live
