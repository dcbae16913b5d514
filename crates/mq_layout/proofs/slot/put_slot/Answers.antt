use Rattle.mq_layout.proofs.FieldsWrites.{slot-written}
use Rattle.mq_layout.proofs.slot.put_slot.Goals as goal

pub returns-clause-is : goal.returns-clause-is
returns-clause-is c = slot-written _ _ _ _ _ _ _ _ c.requires.inside c.requires.few (rw c.to_le_bytes.ensures at c.put.ensures) c.put-2.ensures c.put_zeros.ensures.is c.put-3.ensures c.put_zeros-2.ensures.is
