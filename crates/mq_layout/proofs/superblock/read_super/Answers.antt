use Rattle.mq_layout.proofs.Fields.{sound-of, accepts-of}
use Rattle.mq_layout.proofs.SuperblockForms.{super-sound, super-right}
use Rattle.mq_layout.proofs.superblock.read_super.Goals as goal

pub returns-clause-sound : goal.returns-clause-sound
returns-clause-sound c = let i = c.bytes.ensures.is in sound-of _ _ _ (λ n. super-sound _ _ c.bytes.ensures.whole (rw c.bytes.ensures.is at c.check_super.ensures.bytes) n) (rw c.bytes.ensures.is at c.check_super.ensures.finds)

pub returns-clause-complete : goal.returns-clause-complete
returns-clause-complete c = λ e. accepts-of _ _ (super-right _ _ e) (rw c.bytes.ensures.is at c.check_super.ensures.finds)
