use Rattle.std.proofs.Common.{◌≡◌, ◌∙◌, ℕ, ◌+◌, ◌/◌, ◌%◌, ◌^◌, List, get_or, ap, arith, inl, inr}
use Rattle.std.proofs.lemmas.Bool.{cases_lt}
use Rattle.std.proofs.lemmas.Nat.Bits.{bit_at_ones}
use Rattle.mq_layout.specs.Bits.{AreSet, bit_of}
use Rattle.mq_layout.proofs.bits.first_clear.Goals as goal

-- each bit of a full byte is set
full-byte : (block : List ℕ) (k : ℕ) → get_or block (k / 8) 0 ≡ 255 → bit_of block k ≡ 1
full-byte block k full = ap (λ (byte : ℕ). byte / 2 ^ (k % 8) % 2) full ∙ bit_at_ones 8 (k % 8) (omega arith)

-- the bits so far, and those of a full byte behind them
byte-more : (block : List ℕ) (from at : ℕ) → at % 8 ≡ 0 → get_or block (at / 8) 0 ≡ 255 → AreSet block from at → AreSet block from (at + 8)
byte-more block from at aligned full set k low high = elim (cases_lt k at) [
  | inl before ↦ set k low before
  | inr behind ↦ let same : k / 8 ≡ at / 8 = omega arith in full-byte block k (rw same full)
]

pub loop-at-preserved-then-bytes-at : goal.loop-at-preserved-then-bytes-at
loop-at-preserved-then-bytes-at c = record {
  low = omega arith;
  high = omega arith;
  set = byte-more c.args.block.now c.args.from c.loop-at.at c.if-at-eq0.true (cc) c.loop-at.invariant.set;
}
