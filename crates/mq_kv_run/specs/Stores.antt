-- What is reported of groups, in the words of a store.
use Rattle.std.specs.Prelude.{◌≡◌, ℕ, List, [], ◌∷◌, Option}
use Rattle.mq_blocks.specs.Geometry.{meta_of}
use Rattle.mq_blocks.specs.declared.geometry.Geometry.{Geometry}
use Rattle.mq_kv_buckets.specs.Store.{AreBuckets, Runs, Store, kv_of}
use Rattle.mq_kv_buckets.specs.declared.operation.KvOp.{KvOp}
use Rattle.mq_kv_buckets.specs.declared.operation.KvReply.{KvReply}
use Rattle.mq_kv_run.specs.Groups.{AreTold, IsCommit, Point}
use Rattle.mq_kv_text.specs.declared.report.GroupReport.{GroupReport}
use Rattle.mq_kv_text.specs.declared.report.GroupReport.TheVariants.{Large, Off, Synced}

-- The groups with replies run on the store, one after another, each with its replies, and leave this one. Those
-- that were refused as too large, or cut off, leave it as it is.
abbrev pub LeaveStore : Store → (groups : List (List KvOp)) → List GroupReport → Store → Type 0
LeaveStore s [] reports t = (key : List ℕ) → t key ≡ s key
LeaveStore s (ops ∷ groups) [] t = (key : List ℕ) → t key ≡ s key
LeaveStore s (ops ∷ groups) (Synced a ∷ reports) t =
    (next : Store) × Runs s ops a.replies next × LeaveStore next groups reports t
LeaveStore s (ops ∷ groups) (Large count ∷ reports) t = LeaveStore s groups reports t
LeaveStore s (ops ∷ groups) (Off ∷ reports) t = LeaveStore s groups reports t

-- the store in the buckets at a point
abbrev pub store_at : Geometry → Point → Store
store_at g p = kv_of (meta_of g) p.map

-- Groups that are reported so from a point on whose buckets are in their form run so on the store in these.
abbrev pub GroupsLeaveTheStore : Type 0
GroupsLeaveTheStore =
    (g : Geometry) (p last : Point) (groups : List (List KvOp)) (reports : List GroupReport)
    (off : Option (List KvOp))
    → AreTold g p groups reports off last
    → AreBuckets (meta_of g) p.map
    → AreBuckets (meta_of g) last.map × LeaveStore (store_at g p) groups reports (store_at g last)

-- A group that was cut off and committed all the same has run so on the store before it.
abbrev pub CommitsRunOnTheStore : Type 0
CommitsRunOnTheStore =
    (g : Geometry) (p q : Point) (ops : List KvOp)
    → IsCommit g p ops q
    → AreBuckets (meta_of g) p.map
    → AreBuckets (meta_of g) q.map
    × ((replies : List KvReply) × Runs (store_at g p) ops replies (store_at g q))
