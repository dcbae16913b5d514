-- An entry of the drive is read as it was written.
use Rattle.mq_area.proofs.JournalForm.{journal-sound}
use Rattle.mq_nvme.proofs.Says.{says-entry}
use Rattle.mq_blocks.specs.Descriptor.{DescriptorForm, IsSound, journal_form}
use Rattle.mq_ledger.specs.Items.{AreRead}
use Rattle.mq_ledger.specs.Written.{entries_of}

pub entries_read : (form : DescriptorForm) → AreRead (entries_of form)
entries_read form slot s may = says-entry (record { tx = s.0; slot = slot; lba = s.1; commit = s.2 }) (record { slot = may.slot; tx_low = may.number_low; tx_high = may.number_high; lba = may.lba })

-- What is written in the journal's form is read again too.
pub form_sound : IsSound journal_form
form_sound = journal-sound
