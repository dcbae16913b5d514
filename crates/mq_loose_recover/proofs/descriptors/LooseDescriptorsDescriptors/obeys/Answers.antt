use Rattle.mq_loose_recover.proofs.ReadingExact.{loose-reader}
use Rattle.mq_loose_recover.proofs.descriptors.LooseDescriptorsDescriptors.obeys.Goals as goal

pub returns : goal.returns
returns g = loose-reader
