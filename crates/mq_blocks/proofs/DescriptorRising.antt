-- Rising lists between other bounds, and one number longer.
use Rattle.std.proofs.Common.{ℕ, zero, suc, ◌+◌, ◌-◌, ◌<◌, ◌≤◌, List, [], ◌∷◌, ◌++◌, length, get_or, arith}
use Rattle.mq_blocks.specs.Descriptor.{AreRising}

pub rising-lower : (low mid high : ℕ) (xs : List ℕ) → low ≤ mid → AreRising mid high xs → AreRising low high xs
rising-lower low mid high [] le r = tt
rising-lower low mid high (x ∷ xs) le r = (omega (arith, le, r.0), r.1, r.2)

pub rising-higher : (low mid high : ℕ) (xs : List ℕ) → mid ≤ high → AreRising low mid xs → AreRising low high xs
rising-higher low mid high [] le r = tt
rising-higher low mid high (x ∷ xs) le r = (r.0, omega (arith, r.1, le), rising-higher (x + 1) mid high xs le r.2)

pub rising-next : (low n : ℕ) (xs : List ℕ) → low ≤ n → AreRising low n xs → AreRising low (n + 1) (xs ++ n ∷ [])
rising-next low n [] le r = (le, omega arith, tt)
rising-next low n (x ∷ xs) le r = (r.0, omega (arith, r.1), rising-next (x + 1) n xs (omega (arith, r.1)) r.2)

-- there are no more of them than numbers between the bounds
pub rising-few : (low high : ℕ) (xs : List ℕ) → AreRising low high xs → length xs ≤ high - low
rising-few low high [] r = omega arith
rising-few low high (x ∷ xs) r = omega (arith, r.0, r.1, rising-few (x + 1) high xs r.2)

-- ---- their numbers

pub rising-low : (low high : ℕ) (xs : List ℕ) (k : ℕ) → AreRising low high xs → k < length xs → low ≤ get_or xs k 0
rising-low low high [] k r l = absurd (omega arith)
rising-low low high (x ∷ xs) zero r l = r.0
rising-low low high (x ∷ xs) (suc k) r l = omega (arith, rising-low (x + 1) high xs k r.2 (omega arith))

pub rising-order : (low high : ℕ) (xs : List ℕ) (k m : ℕ) → AreRising low high xs → k < m → m < length xs → get_or xs k 0 < get_or xs m 0
rising-order low high [] k m r h l = absurd (omega arith)
rising-order low high (x ∷ xs) k zero r h l = absurd (omega arith)
rising-order low high (x ∷ xs) zero (suc m) r h l = omega (arith, rising-low (x + 1) high xs m r.2 (omega arith))
rising-order low high (x ∷ xs) (suc k) (suc m) r h l = rising-order (x + 1) high xs k m r.2 (omega arith) (omega arith)
