-- How a group of operations is read, and what it came to.
use Rattle.std.specs.Prelude.{◌≡◌, List, []}
use Rattle.mq_blocks.specs.Geometry.{meta_of}
use Rattle.mq_blocks.specs.Machine.{Map}
use Rattle.mq_blocks.specs.declared.geometry.Geometry.{Geometry}
use Rattle.mq_kv_buckets.specs.Store.{AreBuckets}
use Rattle.mq_kv_buckets.specs.declared.operation.KvOp.{KvOp}
use Rattle.mq_kv_buckets.specs.declared.operation.KvReply.{KvReply}
use Rattle.mq_kv_entries.specs.Entries.{IsAllLogged, placed_by, reads_by, written_by}
use Rattle.mq_kv_entries.specs.declared.entry.KvEntry.{KvEntry}
use Rattle.mq_kv_entries.specs.declared.executor.KvMade.{KvMade}
use Rattle.mq_kv_entries.specs.Groups.{Answers, IsDone}
use Rattle.mq_kv_entries.specs.declared.outcome.KvDone.{KvDone}
use Rattle.mq_kv_entries.specs.declared.outcome.KvOutcome.TheVariants.{Done}
use Rattle.mq_pages.specs.Held.{Cells}
use Rattle.mq_sessions.specs.Calls.{Call}
use Rattle.mq_sessions.specs.Executors.{CallView}

-- The group is done so on each map of which the held pages may be a part, and the page of each block that it
-- writes is held.
abbrev pub IsDoneOnCells : Geometry → Cells → List KvOp → KvMade → Type 0
IsDoneOnCells g cells ops made = Answers (meta_of g) cells ops (Done made.done)

-- the group is done so on the buckets of the map
pub record IsDoneOnMap (g : Geometry) (m : Map) (ops : List KvOp) (made : KvMade) : Type 0 where
  pub buckets : AreBuckets (meta_of g) m
  pub is : IsDone (meta_of g) m ops made.done.replies.items made.done.writes.items

-- the entry is of this call and of what its group came to
pub record IsEntryFor (c : Call KvOp) (done : KvDone) (e : KvEntry) : Type 0 where
  pub session : e.session ≡ c.session
  pub call : e.call ≡ c.count
  pub durable : e.durable ≡ c.durable
  pub ops : e.ops ≡ c.requests
  pub replies : e.replies ≡ done.replies.items
  pub writes : written_by e ≡ done.writes.items

-- the entry is of this call, with these replies
pub record IsOfCall (c : Call KvOp) (replies : List KvReply) (e : KvEntry) : Type 0 where
  pub session : e.session ≡ c.session
  pub call : e.call ≡ c.count
  pub durable : e.durable ≡ c.durable
  pub ops : e.ops ≡ c.requests
  pub replies_are : e.replies ≡ replies

abbrev pub store_calls : CallView KvEntry KvOp KvReply KvMade
store_calls = record {
  replies = λ made. made.done.replies.items;
  writes = λ made. made.done.writes.items;
  frees = λ made. [];
  on_cells = λ g session cells ops made. IsDoneOnCells g cells ops made;
  on_map = λ g session m ops made. IsDoneOnMap g m ops made;
  entry_for = λ c made e. IsEntryFor c made.done e;
  undrawn = λ e. IsAllLogged e;
  of_call = λ c replies e. IsOfCall c replies e;
  written = written_by;
  freed = λ e. [];
  placed = placed_by;
  reads = reads_by;
}
