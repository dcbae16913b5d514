-- What a group of operations depends on.
use Rattle.std.specs.Prelude.{◌≡◌, ℕ, List}
use Rattle.mq_blocks.specs.Machine.{Map}
use Rattle.mq_kv_buckets.specs.Store.{map_after_ops, replies_on}
use Rattle.mq_kv_buckets.specs.declared.operation.KvOp.{KvOp}
use Rattle.mq_kv_entries.specs.Groups.{GroupLooks}

-- on two maps that agree at the buckets of its keys
pub record DoesAlike (buckets : ℕ) (m n : Map) (ops : List KvOp) : Type 0 where
  pub replies : replies_on buckets m ops ≡ replies_on buckets n ops
  pub blocks : (b : ℕ) → m b ≡ n b → map_after_ops buckets m ops b ≡ map_after_ops buckets n ops b

abbrev pub GroupsLookAtTheirBuckets : Type 0
GroupsLookAtTheirBuckets =
    (buckets : ℕ) (m n : Map) (ops : List KvOp)
    → ((b : ℕ) → GroupLooks buckets ops b → m b ≡ n b)
    → DoesAlike buckets m n ops
    × ((b : ℕ) → (GroupLooks buckets ops b → ⊥) → map_after_ops buckets m ops b ≡ m b)
