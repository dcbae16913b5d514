-- The slot of a completion's command.
use Rattle.std.proofs.Common.{◌≡◌, ◌<◌, ℕ, ◌%◌, arith}
use Rattle.mq_blocks.specs.Limits.{depth}

pub slot_low : (slot count : ℕ) → slot ≡ count % depth → slot < depth
slot_low slot count is = omega (arith, is)
