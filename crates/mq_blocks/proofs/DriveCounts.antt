-- Commands in order of count.
use Rattle.std.proofs.Common.{◌<◌, ◌≤◌, ℕ, ◌+◌, ◌-◌, List, [], ◌∷◌, ◌++◌, length, zero, suc, arith}
use Rattle.std.specs.List.{remove}
use Rattle.mq_blocks.specs.Drive.{AreCounted, AreFrom}
use Rattle.mq_blocks.specs.declared.command.Command.{Command}

pub length-counted : (low high : ℕ) (cs : List Command) → AreCounted low high cs → length cs ≤ high - low
length-counted low high [] counted = omega arith
length-counted low high (c ∷ cs) counted = omega (arith, length-counted (c.count + 1) high cs counted.1.1, counted.0, counted.1.0)

-- ---- wider ranges

pub counted_low : (low less high : ℕ) (cs : List Command) → less ≤ low → AreCounted low high cs → AreCounted less high cs
counted_low low less high [] below counted = tt
counted_low low less high (c ∷ cs) below counted = (omega (arith, counted.0), counted.1)

pub counted_high : (low high more : ℕ) (cs : List Command) → high ≤ more → AreCounted low high cs → AreCounted low more cs
counted_high low high more [] above counted = tt
counted_high low high more (c ∷ cs) above counted = (counted.0, (omega (arith, counted.1.0), counted_high (c.count + 1) high more cs above counted.1.1))

pub counted_from : (low high from : ℕ) (cs : List Command) → AreFrom from cs → AreCounted low high cs → AreCounted from high cs
counted_from low high from [] above counted = tt
counted_from low high from (c ∷ cs) above counted = (above.0, counted.1)

-- ---- parts

pub counted_rest : (low high : ℕ) (c : Command) (cs : List Command) → AreCounted low high (c ∷ cs) → AreCounted low high cs
counted_rest low high c cs counted = counted_low (c.count + 1) low high cs (omega (arith, counted.0)) counted.1.1

pub counted_append : (low mid high : ℕ) (xs ys : List Command) → low ≤ mid → mid ≤ high → AreCounted low mid xs → AreCounted mid high ys → AreCounted low high (xs ++ ys)
counted_append low mid high [] ys below above first second = counted_low mid low high ys below second
counted_append low mid high (c ∷ cs) ys below above first second =
    (first.0, (omega (arith, first.1.0), counted_append (c.count + 1) mid high cs ys (omega (arith, first.1.0)) above first.1.1 second))

pub counted_remove : (low high at : ℕ) (cs : List Command) → AreCounted low high cs → AreCounted low high (remove cs at)
counted_remove low high zero [] counted = tt
counted_remove low high zero (c ∷ cs) counted = counted_rest low high c cs counted
counted_remove low high (suc at) [] counted = tt
counted_remove low high (suc at) (c ∷ cs) counted = (counted.0, (counted.1.0, counted_remove (c.count + 1) high at cs counted.1.1))
