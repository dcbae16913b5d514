-- The buckets as they are between two operations of a group.
use Rattle.std.specs.Prelude.{◌≡◌, ◌≢◌, ℕ, List, Option, Some}
use Rattle.std.specs.BTreeMap.{get}
use Rattle.std.specs.Ordering.{nat_cmp}
use Rattle.mq_blocks.specs.Machine.{Map, or_kept}
use Rattle.mq_kv_buckets.specs.Store.{map_after_ops, map_on}
use Rattle.mq_kv_buckets.specs.declared.operation.KvOp.{KvOp}
use Rattle.mq_kv_entries.specs.Groups.{joined}
use Rattle.mq_sessions.specs.Pages.{held_pages}
use Rattle.mq_kv_entries.specs.declared.working.Working.{Working}

-- what was put by the operations before
unfoldable pub changed_of : Working → ℕ → Option (List ℕ)
changed_of w b = get nat_cmp w.changed b

-- what is known of a block before the group
unfoldable pub held_of : Working → ℕ → Option (Option (List ℕ))
held_of w b = held_pages w.held.now.cells b

-- the buckets before the group, and now
abbrev pub was : Working → Map
was w b = joined (held_of w b)

abbrev pub now : Working → Map
now w b = or_kept (changed_of w b) (was w b)

-- a bucket was put
pub record IsPut (old new : Working) (b : ℕ) (block : List ℕ) : Type 0 where
  pub held : (x : ℕ) → held_of new x ≡ held_of old x
  pub here : changed_of new b ≡ Some block
  pub others : (x : ℕ) → x ≢ b → changed_of new x ≡ changed_of old x

-- all but one are as they were
pub record IsKept (old new : Working) (b : ℕ) : Type 0 where
  pub held : (x : ℕ) → held_of new x ≡ held_of old x
  pub others : (x : ℕ) → x ≢ b → changed_of new x ≡ changed_of old x

-- an operation was carried out
pub record IsStepped (buckets : ℕ) (old new : Working) (op : KvOp) : Type 0 where
  pub held : (x : ℕ) → held_of new x ≡ held_of old x
  pub is : (x : ℕ) → now new x ≡ map_on buckets (now old) op x

-- operations were carried out one after another
pub record HasRun (buckets : ℕ) (old new : Working) (ops : List KvOp) : Type 0 where
  pub held : (x : ℕ) → held_of new x ≡ held_of old x
  pub is : (x : ℕ) → now new x ≡ map_after_ops buckets (now old) ops x
