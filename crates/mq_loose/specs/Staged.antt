-- What is staged for an entry, with descriptors of a form.
use Rattle.std.specs.Prelude.{◌≡◌, ℕ}
use Rattle.mq_blocks.specs.Descriptor.{DescriptorForm}
use Rattle.mq_blocks.specs.declared.geometry.Geometry.{Geometry}
use Rattle.mq_ledger.specs.Items.{Item, bytes_of, said_of, lba_of}
use Rattle.mq_ledger.specs.Plain.{plain_entry}
use Rattle.mq_ledger.specs.declared.staging.Staged.{Staged}

pub record IsStagedIn (form : DescriptorForm) (g : Geometry) (q : ℕ) (i : Item) (s : Staged) : Type 0 where
  pub entry : s.entry ≡ plain_entry (said_of g q i)
  pub tx : s.tx ≡ i.number
  pub lba : s.lba ≡ lba_of g q i.target
  pub block : s.block ≡ bytes_of form i.content
