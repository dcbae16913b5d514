use Rattle.std.proofs.Common.{◌≡◌, false, drop}
use Rattle.mq_blocks.specs.Drive.{holds_write}
use Rattle.mq_core.proofs.port.last_write.Given as goal

-- no write of the block stands behind
abbrev pub invariant-loop-at : goal.invariant-loop-at
invariant-loop-at l = holds_write l.lba (drop l.at l.begun) ≡ false
