-- The lines of a block text as the updates of a history, and what a replica of them holds.
use Rattle.std.specs.Prelude.{◌≡◌, ℕ, zero, suc, ◌+◌, List}
use Rattle.mq_block_text.specs.Text.{sets_in}
use Rattle.mq_block_text.specs.declared.item.BlockItem.{BlockItem}
use Rattle.mq_block_trace.specs.Lines.{line_at, named, set_in, writes_from}
use Rattle.mq_blocks.specs.declared.geometry.Geometry.{Geometry}
use Rattle.mq_replica.specs.Contents.{Contents, after_update}
use Rattle.mq_replica.specs.declared.update.Update.{Update}

-- The geometry of replicas of block texts: that of block texts with one home block more, behind those that
-- texts may name.
pub record IsReplicaGeometry (g : Geometry) : Type 0 where
  pub queues : g.queues ≡ 1
  pub area : g.area ≡ 1024
  pub meta : g.meta ≡ 16
  pub zone : g.zone ≡ 241

-- The update of a line: it writes what the line's transaction writes. A block that the line frees keeps its
-- bytes: the lines say which blocks are live, and the replica what they hold.
abbrev pub update_of : (number : ℕ) → List BlockItem → Update
update_of number line = record { number = number; writes = writes_from (set_in line) 0 named }

-- what the home blocks hold after the updates of the first n lines, numbered from 1
abbrev pub contents_after : Geometry → Contents → List (List BlockItem) → ℕ → Contents
contents_after g c lines zero = c
contents_after g c lines (suc n) = after_update g (update_of (n + 1) (line_at lines n)) (contents_after g c lines n)

-- The entries of the updates of the first n lines: one for each block that a line sets, one for the block
-- that has the number, and the descriptor's.
abbrev pub entries_upto : List (List BlockItem) → ℕ → ℕ
entries_upto lines zero = 0
entries_upto lines (suc n) = entries_upto lines n + (sets_in (line_at lines n) + 2)
