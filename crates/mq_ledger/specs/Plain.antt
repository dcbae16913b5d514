-- Entries as the machine writes them: the three things that an entry says, one after another. Its
-- descriptors have the journal's form.
use Rattle.std.specs.Prelude.{ℕ, ◌==◌, List, [], ◌∷◌, Option, Some, None, if◌then◌else◌}
use Rattle.mq_blocks.specs.Descriptor.{journal_form}
use Rattle.mq_blocks.specs.Journal.{WriteFields}
use Rattle.mq_ledger.specs.Items.{Entries}

abbrev pub plain_entry : WriteFields → List ℕ
plain_entry s = s.0 ∷ s.1 ∷ (if s.2 then 1 else 0) ∷ []

abbrev pub plain_says : List ℕ → Option WriteFields
plain_says (number ∷ lba ∷ commit ∷ []) = Some (number, lba, commit == 1)
plain_says _ = None

abbrev pub plain : Entries
plain = record { entry = λ slot s. plain_entry s; says = plain_says; form = journal_form }
