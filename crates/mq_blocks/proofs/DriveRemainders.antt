-- Numbers that are near each other have different remainders.
use Rattle.std.proofs.Common.{◌≢◌, ◌<◌, ◌+◌, ◌%◌, ℕ, arith}
use Rattle.mq_blocks.specs.Limits.{depth}

pub mod_apart : (n a b : ℕ) → a < b → b < a + n → a % n ≢ b % n
mod_apart n a b l u = grind arith

pub slots_apart : (a b : ℕ) → a < b → b < a + depth → a % depth ≢ b % depth
slots_apart a b l u = omega arith
