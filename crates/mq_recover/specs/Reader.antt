-- How the descriptors of one kind of journal are read.
use Rattle.std.specs.Prelude.{◌≡◌, ◌≢◌, ℕ, List}
use Rattle.mq_area.specs.declared.descriptor.Expect.{Expect}
use Rattle.mq_area.specs.declared.refusal.DescriptorRefusal.{DescriptorRefusal}
use Rattle.mq_area.specs.declared.refusal.DescriptorRefusal.TheVariants.{OutOfMemory}
use Rattle.mq_blocks.specs.Descriptor.{Descriptor, IsGood}
use Rattle.mq_blocks.specs.Geometry.{homes_of}
use Rattle.mq_blocks.specs.Limits.{list_limit}
use Rattle.mq_blocks.specs.declared.geometry.Geometry.{Geometry}

-- a block, with the one before it, is this descriptor, and it is what is expected
abbrev pub Accepting : Type 1
Accepting = Geometry → Expect → (block before : List ℕ) → Descriptor → Type 0

-- a block, with the one before it, is refused for this cause
abbrev pub Refusing : Type 1
Refusing = Geometry → Expect → (block before : List ℕ) → DescriptorRefusal → Type 0

-- A descriptor that is accepted is good and the one that is expected, a block has one at most, and no other
-- cause than lack of memory for which it is refused; a block has one other cause at most.
pub record IsReader (accepts : Accepting) (refuses : Refusing) : Type 0 where
  pub good : (g : Geometry) (at : Expect) (block before : List ℕ) (d : Descriptor)
      → accepts g at block before d → IsGood list_limit (homes_of g) d
  pub queue : (g : Geometry) (at : Expect) (block before : List ℕ) (d : Descriptor)
      → accepts g at block before d → d.queue ≡ at.queue
  pub number : (g : Geometry) (at : Expect) (block before : List ℕ) (d : Descriptor)
      → accepts g at block before d → d.number ≡ at.number
  pub once : (g : Geometry) (at : Expect) (block before : List ℕ) (d e : Descriptor)
      → accepts g at block before d → accepts g at block before e → d ≡ e
  pub cause_once : (g : Geometry) (at : Expect) (block before : List ℕ) (e f : DescriptorRefusal)
      → refuses g at block before e → refuses g at block before f → e ≢ OutOfMemory → f ≢ OutOfMemory
      → e ≡ f
  pub apart : (g : Geometry) (at : Expect) (block before : List ℕ) (d : Descriptor)
      (e : DescriptorRefusal)
      → accepts g at block before d → refuses g at block before e → e ≡ OutOfMemory
