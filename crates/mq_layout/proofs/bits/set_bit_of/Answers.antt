use Rattle.std.proofs.Common.{arith}
use Rattle.std.proofs.lemmas.Nat.Bits.{bit_at_set_same, bit_at_set_other, bit_at_clear_same, bit_at_clear_other}
use Rattle.std.specs.Int.{w8}
use Rattle.mq_layout.proofs.FieldsWrites.{bit-set_same, bit-set_other}
use Rattle.mq_layout.proofs.bits.set_bit_of.Goals as goal

pub returns-then-value-clause-set : goal.returns-then-value-clause-set
returns-then-value-clause-set c = rw (c.if-value.true, bit-set_same _ _ _ c.requires) (bit_at_set_same w8 _ _ (omega arith))

pub returns-then-value-clause-others : goal.returns-then-value-clause-others
returns-then-value-clause-others c = λ k ne. bit-set_other _ _ _ k c.requires ne (λ i low n. bit_at_set_other w8 _ _ (omega arith) i n)

pub returns-else-value-clause-set : goal.returns-else-value-clause-set
returns-else-value-clause-set c = rw (c.if-value.false, bit-set_same _ _ _ c.requires) (bit_at_clear_same w8 _ _ (omega arith))

pub returns-else-value-clause-others : goal.returns-else-value-clause-others
returns-else-value-clause-others c = λ k ne. bit-set_other _ _ _ k c.requires ne (λ i low n. bit_at_clear_other w8 _ _ (omega arith) i low n)
