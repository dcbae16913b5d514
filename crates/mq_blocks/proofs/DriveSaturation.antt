-- Counts of 64 bits that stay at their greatest.
use Rattle.std.proofs.Common.{◌≡◌, ◌+◌, ◌-◌, ◌^◌, ℕ, zero, suc, min, refl}
use Rattle.mq_blocks.specs.Drive.{counted}

pub counted-next : (n k : ℕ) → counted n (suc k) ≡ counted (counted n k) 1
counted-next n zero = refl
counted-next n (suc k) = counted-next (min (n + 1) (2 ^ 64 - 1)) k
