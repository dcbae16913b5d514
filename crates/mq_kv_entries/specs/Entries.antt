-- What an entry says, and what its group does to a map of home blocks.
use Rattle.std.specs.Prelude.{◌≡◌, ◌<◌, ℕ, List, [], Option, Some, None}
use Rattle.mq_blocks.specs.Blocks.{content}
use Rattle.mq_blocks.specs.Geometry.{meta_of, queues_of}
use Rattle.mq_blocks.specs.Machine.{Map, after}
use Rattle.mq_blocks.specs.declared.geometry.Geometry.{Geometry}
use Rattle.mq_kv_buckets.specs.Store.{AreBuckets, map_after_ops}
use Rattle.mq_kv_entries.specs.declared.entry.KvEntry.{KvEntry}
use Rattle.mq_kv_entries.specs.Groups.{IsDone}
use Rattle.mq_ledger.specs.History.{change_of}
use Rattle.mq_ledger.specs.declared.tx.Tx.{Tx}
use Rattle.mq_pages.specs.declared.page.Write.{Write}
use Rattle.mq_revoke.specs.Placed.{Placed}
use Rattle.mq_sessions.specs.Drawn.{Changes, blocks_in, tx_by}
use Rattle.mq_sessions.specs.Executors.{IsUndrawn}
use Rattle.mq_sessions.specs.declared.reads.Reads.{Reads}

-- ---- what it says

abbrev pub written_by : KvEntry → List Write
written_by e = e.writes.value.items

-- where its writes go
abbrev pub placed_by : KvEntry → Placed
placed_by e = record { logged = e.logged; direct = e.direct.value.items; revoked = e.revoked.value.items }

-- the front and the base by which they were placed; zeros for a group that isn't drawn
abbrev pub or_zeros : Option Reads → Reads
or_zeros None = record { front = 0; base = 0 }
or_zeros (Some reads) = reads

abbrev pub reads_by : KvEntry → Reads
reads_by e = or_zeros e.reads.value

-- its transaction, whose number is the one at which it is drawn
abbrev pub tx_of : KvEntry → Tx
tx_of e = tx_by 0 e.session (placed_by e) (written_by e) []

-- all that it writes is logged
pub record IsAllLogged (e : KvEntry) : Type 0 where
  pub logged : e.logged ≡ blocks_in (written_by e)
  pub direct : (placed_by e).direct ≡ []
  pub revoked : (placed_by e).revoked ≡ []

-- ---- what it does

-- the map after its operations
abbrev pub map_by : Geometry → Map → KvEntry → Map
map_by g m e = map_after_ops (meta_of g) m e.ops

-- The group ran on the buckets of the map: it was answered as its operations are there, and it writes just
-- the buckets that they change.
pub record Ran (g : Geometry) (m : Map) (e : KvEntry) : Type 0 where
  pub buckets : AreBuckets (meta_of g) m
  pub queue : e.session < queues_of g
  pub is : IsDone (meta_of g) m e.ops e.replies (written_by e)

-- It ran and changed something. It logs all that it writes, and its transaction leaves just the buckets
-- that its operations leave.
pub record Does (g : Geometry) (m : Map) (e : KvEntry) : Type 0 where
  pub ran : Ran g m e
  pub changes : Changes (written_by e) []
  pub logged : IsAllLogged e
  pub next : (b : ℕ) → content (after m (change_of (tx_of e)) b) ≡ content (map_by g m e b)
  pub buckets : AreBuckets (meta_of g) (after m (change_of (tx_of e)))

-- It ran and isn't drawn: it changes nothing, or too much for one transaction.
pub record RanUndrawn (g : Geometry) (m : Map) (e : KvEntry) : Type 0 where
  pub ran : Ran g m e
  pub undrawn : IsUndrawn g (written_by e) []
  pub logged : IsAllLogged e
