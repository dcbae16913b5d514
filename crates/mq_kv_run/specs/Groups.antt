-- What groups of operations come to, one after another, and what is reported of each.
use Rattle.std.specs.Prelude.{◌≡◌, ◌<◌, ◌≤◌, ℕ, ◌+◌, List, [], ◌∷◌, length, Option, None, Some}
use Rattle.mq_blocks.specs.Descriptor.{further_for}
use Rattle.mq_blocks.specs.Geometry.{meta_of, write_limit}
use Rattle.mq_blocks.specs.Machine.{Map}
use Rattle.mq_blocks.specs.declared.geometry.Geometry.{Geometry}
use Rattle.mq_kv_buckets.specs.Store.{map_after_ops, replies_on}
use Rattle.mq_kv_buckets.specs.declared.operation.KvOp.{KvOp}
use Rattle.mq_kv_entries.specs.Groups.{IsDifference}
use Rattle.mq_kv_text.specs.declared.report.GroupReport.{GroupReport}
use Rattle.mq_kv_text.specs.declared.report.GroupReport.TheVariants.{Large, Off, Synced}
use Rattle.mq_pages.specs.declared.page.Write.{Write}

-- Where a run stands: the buckets, the last number that was drawn, or the base, and how many entries the
-- groups up to there have in the ring of their queue.
pub record Point : Type 0 where
  pub map : Map
  pub number : ℕ
  pub entries : ℕ

-- ---- a group

-- the group writes so many blocks, which are those that it changes
abbrev pub Writes : Geometry → Map → List KvOp → (count : ℕ) → Type 0
Writes g m ops count =
    (writes : List Write) × IsDifference m (map_after_ops (meta_of g) m ops) writes
    × (count ≡ length writes)

-- A commit has an entry for each block that it writes, one for its descriptor, and one for the descriptor's
-- further block, if it has that. Each block that it writes is logged.
abbrev pub entries_for : (count : ℕ) → ℕ
entries_for count = count + 1 + further_for count

-- The group is committed: it writes at least one block, and no more than a transaction may.
pub record IsCommit (g : Geometry) (p : Point) (ops : List KvOp) (q : Point) : Type 0 where
  pub count : ℕ
  pub writes : Writes g p.map ops count
  pub some : 1 ≤ count
  pub few : count ≤ write_limit g
  pub map_is : q.map ≡ map_after_ops (meta_of g) p.map ops
  pub number_is : q.number ≡ p.number + 1
  pub entries_are : q.entries ≡ p.entries + entries_for count

-- What is reported of a group that is not cut off, with the point behind it. A group that writes draws the next
-- number; one that writes nothing is read at the last one; and one that writes too much changes nothing. The
-- replies are those of the buckets after the groups before it.
pub data IsTold (g : Geometry) (p : Point) (ops : List KvOp) : GroupReport → Point → Type 0 where
  committed : (q : Point) → IsCommit g p ops q
      → IsTold g p ops (Synced (record { replies = replies_on (meta_of g) p.map ops; at = q.number })) q
  read : Writes g p.map ops 0
      → IsTold g p ops (Synced (record { replies = replies_on (meta_of g) p.map ops; at = p.number })) p
  too_large : (count : ℕ) → Writes g p.map ops count → write_limit g < count
      → IsTold g p ops (Large count) p

-- ---- groups

-- What is reported of groups, with the point behind those that are not cut off. Each group has its report, up to
-- one that was cut off by the power, if there is one. That one is not too large, and it ends the reports.
pub data AreTold (g : Geometry) : Point → (groups : List (List KvOp)) → List GroupReport
    → (off : Option (List KvOp)) → Point → Type 0 where
  whole : (p : Point) → AreTold g p [] [] None p
  cut_off : (p : Point) (ops : List KvOp) (groups : List (List KvOp)) (count : ℕ) → Writes g p.map ops count
      → count ≤ write_limit g → AreTold g p (ops ∷ groups) (Off ∷ []) (Some ops) p
  next : (p q last : Point) (ops : List KvOp) (groups : List (List KvOp)) (r : GroupReport)
      (reports : List GroupReport) (off : Option (List KvOp))
      → IsTold g p ops r q → AreTold g q groups reports off last
      → AreTold g p (ops ∷ groups) (r ∷ reports) off last

-- The point behind the groups that are not cut off, or behind the one that is too: it may have been committed.
pub data IsReached (g : Geometry) (last : Point) : (off : Option (List KvOp)) → Point → Type 0 where
  without : (off : Option (List KvOp)) → IsReached g last off last
  with_cut : (ops : List KvOp) (q : Point) → IsCommit g last ops q → IsReached g last (Some ops) q
