-- The writes of a line, block by block, and that they rise.
use Rattle.std.proofs.Common.{◌≡◌, ◌<◌, ◌≤◌, ℕ, zero, suc, ◌+◌, ◌-◌, [], ◌∷◌, ◌++◌, Option, Some, None, ◌∙◌, ap, sym, arith, append_assoc}
use Rattle.mq_blocks.specs.Blocks.{filled}
use Rattle.mq_blocks.specs.Descriptor.{AreRising}
use Rattle.mq_blocks.specs.Machine.{Writes}
use Rattle.mq_block_trace.specs.Lines.{with_write, writes_from, named}
use Rattle.mq_block_trace.proofs.LinesFills.{Fill, named_is, writes_at}
use Rattle.mq_ledger.specs.History.{blocks_of}

-- ---- what a loop over the blocks has so far

pub writes_none : (f : Fill) (b : ℕ) (so_far all : Writes) → b < 256 → f b ≡ None → all ≡ so_far ++ writes_from f b (named - b) → all ≡ so_far ++ writes_from f (b + 1) (named - (b + 1))
writes_none f b so_far all less none is =
    is ∙ ap (λ (ws : Writes). so_far ++ ws) (writes_at f named b (omega (arith, named_is)) ∙ ap (λ (o : Option ℕ). with_write b o (writes_from f (b + 1) (named - (b + 1)))) none)

pub writes_some : (f : Fill) (b v : ℕ) (so_far all : Writes) → b < 256 → f b ≡ Some v → all ≡ so_far ++ writes_from f b (named - b)
    → all ≡ (so_far ++ (b, filled v) ∷ []) ++ writes_from f (b + 1) (named - (b + 1))
writes_some f b v so_far all less some is =
    is ∙ ap (λ (ws : Writes). so_far ++ ws) (writes_at f named b (omega (arith, named_is)) ∙ ap (λ (o : Option ℕ). with_write b o (writes_from f (b + 1) (named - (b + 1)))) some)
    ∙ sym (append_assoc so_far ((b, filled v) ∷ []) (writes_from f (b + 1) (named - (b + 1))))

-- ---- they rise

rising_one : (low high b : ℕ) (o : Option ℕ) (ws : Writes) → low ≤ b → b < high → ((m : ℕ) → m ≤ b + 1 → AreRising m high (blocks_of ws)) → AreRising low high (blocks_of (with_write b o ws))
rising_one low high b None ws from below rest = rest low (omega arith)
rising_one low high b (Some v) ws from below rest = (from, below, rest (b + 1) (omega arith))

pub rising_from : (f : Fill) (b n low high : ℕ) → low ≤ b → b + n ≤ high → AreRising low high (blocks_of (writes_from f b n))
rising_from f b zero low high from below = tt
rising_from f b (suc n) low high from below = rising_one low high b (f b) (writes_from f (b + 1) n) from (omega arith) (λ m at. rising_from f (b + 1) n m high at (omega arith))
