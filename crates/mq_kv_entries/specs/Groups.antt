-- Groups of operations on the buckets that a session holds.
use Rattle.std.specs.Prelude.{◌≡◌, ◌≢◌, ◌≤◌, ◌<◌, ℕ, true, List, length, Option, Some, None}
use Rattle.std.specs.List.{AllPairs, Contains}
use Rattle.mq_blocks.specs.Blocks.{content}
use Rattle.mq_blocks.specs.Machine.{Map}
use Rattle.mq_kv_buckets.specs.Keys.{bucket_of}
use Rattle.mq_kv_buckets.specs.Store.{AreBuckets, is_key, key_of, map_after_ops, replies_on}
use Rattle.mq_kv_buckets.specs.declared.operation.KvOp.{KvOp}
use Rattle.mq_kv_buckets.specs.declared.operation.KvReply.{KvReply}
use Rattle.mq_kv_entries.specs.declared.outcome.KvOutcome.{KvOutcome}
use Rattle.mq_kv_entries.specs.declared.outcome.KvOutcome.TheVariants.{Done, Need}
use Rattle.mq_pages.specs.Held.{Cells}
use Rattle.mq_pages.specs.declared.page.Kind.TheVariants.{Meta}
use Rattle.mq_pages.specs.declared.page.Write.{Write}
use Rattle.mq_sessions.specs.Executors.{AgreesWith}
use Rattle.mq_sessions.specs.Pages.{held_pages}

-- ---- held buckets

abbrev pub joined : Option (Option (List ℕ)) → Option (List ℕ)
joined None = None
joined (Some page) = page

-- the held buckets as a map, in which all others are absent
abbrev pub held_map : Cells → Map
held_map cells b = joined (held_pages cells b)

-- They are those of some map whose buckets are in their form.
abbrev pub IsPossible : ℕ → Cells → Type 0
IsPossible buckets cells = (m : Map) × AreBuckets buckets m × AgreesWith cells m

-- ---- what is looked at

-- an operation looks at the bucket of its key, where the key has a good length
abbrev pub LooksAt : ℕ → KvOp → ℕ → Type 0
LooksAt buckets op b = (is_key (key_of op) ≡ true) × (bucket_of buckets (key_of op) ≡ b)

abbrev pub GroupLooks : ℕ → List KvOp → ℕ → Type 0
GroupLooks buckets ops b = (op : KvOp) × Contains ops op × LooksAt buckets op b

-- whether the bucket at which an operation looks, if at any, is held
abbrev pub LooksAtHeld : ℕ → Cells → KvOp → Type 0
LooksAtHeld buckets cells op = (b : ℕ) → LooksAt buckets op b → held_pages cells b ≢ None

abbrev pub LacksAt : ℕ → Cells → KvOp → ℕ → Type 0
LacksAt buckets cells op b = LooksAt buckets op b × (held_pages cells b ≡ None)

-- the buckets that are looked at and not held
pub record AreLacking (buckets : ℕ) (cells : Cells) (ops : List KvOp) (blocks : List ℕ) : Type 0 where
  pub all : (b : ℕ) → GroupLooks buckets ops b → held_pages cells b ≡ None → Contains blocks b
  pub only : (b : ℕ) → Contains blocks b → GroupLooks buckets ops b × (held_pages cells b ≡ None)

-- each once and in rising order
pub record AreAllMissing (buckets : ℕ) (cells : Cells) (ops : List KvOp) (blocks : List ℕ) : Type 0 where
  pub rise : AllPairs (λ a b. a < b) blocks
  pub lacking : AreLacking buckets cells ops blocks

-- ---- what is done

-- The writes are those of the blocks whose bytes differ between two maps, in rising order.
pub record IsDifference (old new : Map) (writes : List Write) : Type 0 where
  pub rise : AllPairs (λ x y. x.block < y.block) writes
  pub written : (x : Write) → Contains writes x
      → (x.kind ≡ Meta) × (content (new x.block) ≡ x.content) × (content (old x.block) ≢ x.content)
  pub all : (b : ℕ) → content (new b) ≢ content (old b) → (x : Write) × Contains writes x × (x.block ≡ b)

-- The group is done so on the map.
pub record IsDone (buckets : ℕ) (m : Map) (ops : List KvOp) (replies : List KvReply)
    (writes : List Write) : Type 0 where
  pub replies_are : replies ≡ replies_on buckets m ops
  pub writes_are : IsDifference m (map_after_ops buckets m ops) writes

-- Where the group is done, it is so on each map whose buckets are in their form and of which these pages are,
-- and the page of each block that is written is held. Else it misses just these buckets, at least one.
abbrev pub Answers : ℕ → Cells → List KvOp → KvOutcome → Type 0
Answers buckets cells ops (Done done) =
    ((x : Write) → Contains done.writes.items x → held_pages cells x.block ≢ None)
    × ((m : Map) → AreBuckets buckets m → AgreesWith cells m
    → IsDone buckets m ops done.replies.items done.writes.items)
Answers buckets cells ops (Need blocks) =
    (1 ≤ length blocks.items) × AreAllMissing buckets cells ops blocks.items
