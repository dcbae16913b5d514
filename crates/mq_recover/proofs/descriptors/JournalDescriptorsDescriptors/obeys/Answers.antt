use Rattle.mq_recover.proofs.Readers.{journal-reader}
use Rattle.mq_recover.proofs.descriptors.JournalDescriptorsDescriptors.obeys.Goals as goal

pub returns : goal.returns
returns g = journal-reader
