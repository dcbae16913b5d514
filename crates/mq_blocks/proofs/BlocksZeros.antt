-- What a block of zeros holds.
use Rattle.std.proofs.Common.{get_or, ◌≡◌, ℕ, length, replicate, inl, inr, arith}
use Rattle.std.proofs.lemmas.Bool.{cases_lt}
use Rattle.std.proofs.lemmas.List.{get_or_past, get_or-replicate, length-replicate}
use Rattle.mq_blocks.specs.Blocks.{zeros}

pub length-zeros : length zeros ≡ 4096
unfolding zeros
length-zeros = length-replicate {A = ℕ} 4096 0

pub zeros-at : (k : ℕ) → get_or zeros k 0 ≡ 0
unfolding zeros
zeros-at k = elim (cases_lt k 4096) [
  | inl l ↦ get_or-replicate {A = ℕ} 4096 k 0 0 l
  | inr p ↦ get_or_past (replicate 4096 0) k 0 (let n = length-replicate {A = ℕ} 4096 0 in omega arith)
]
