-- What is refused of one list of a block.
use Rattle.std.specs.Prelude.{◌≡◌, ℕ, ◌+◌, List, slice_index}
use Rattle.mq_area.specs.Reading.{StopsAt}
use Rattle.mq_area.specs.declared.refusal.DescriptorRefusal.{DescriptorRefusal}
use Rattle.mq_area.specs.declared.refusal.DescriptorRefusal.TheVariants.{List as Listed}
use Rattle.mq_blocks.specs.Descriptor.{AreRising}

-- the dependences rise up to this one, which stands after so many logged blocks
pub record StopsDeps (number logged : ℕ) (deps : List ℕ) (index found : ℕ) : Type 0 where
  pub at : ℕ
  pub index_is : index ≡ logged + at
  pub found_is : found ≡ slice_index deps at
  pub stops : StopsAt (AreRising 1 number) deps at

abbrev pub IsDepsRefusal : ℕ → ℕ → List ℕ → DescriptorRefusal → Type 0
IsDepsRefusal number logged deps (Listed index found) = StopsDeps number logged deps index found
IsDepsRefusal number logged deps _ = ⊥
