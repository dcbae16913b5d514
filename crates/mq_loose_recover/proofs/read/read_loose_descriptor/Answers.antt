use Rattle.mq_loose_recover.proofs.ReadingExact.{complete-of, exact-of}
use Rattle.mq_loose_recover.proofs.read.read_loose_descriptor.Goals as goal

pub returns-clause-complete : goal.returns-clause-complete
returns-clause-complete c = complete-of _ _ _ _ (rw c.bytes.ensures.is at c.read_bytes.ensures.sound) (rw c.bytes.ensures.is at c.read_bytes.ensures.refused)

pub returns-clause-exact : goal.returns-clause-exact
returns-clause-exact c = exact-of _ _ _ _ (rw c.bytes.ensures.is at c.read_bytes.ensures.sound) (rw c.bytes.ensures.is at c.read_bytes.ensures.refused)
