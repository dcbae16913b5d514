-- What groups of operations are to a desk over the ports of a drive.
use Rattle.std.specs.Prelude.{ℕ, List, map}
use Rattle.mq_blocks.specs.Geometry.{meta_of}
use Rattle.mq_blocks.specs.Machine.{Map}
use Rattle.mq_blocks.specs.declared.geometry.Geometry.{Geometry}
use Rattle.mq_desk_laws.specs.Groups.{GroupView}
use Rattle.mq_kv_buckets.specs.Store.{AreBuckets}
use Rattle.mq_kv_entries.specs.Entries.{Does, RanUndrawn, placed_by, reads_by, tx_of, written_by}
use Rattle.mq_kv_entries.specs.declared.entry.KvEntry.{KvEntry}
use Rattle.mq_ledger.specs.declared.tx.Tx.{Tx}
use Rattle.mq_revoke.specs.Placing.{IsPlacement}
use Rattle.mq_sessions.specs.Plans.{planned_by}

-- each block of the metadata region is a bucket in its form
abbrev pub CarriesStore : Geometry → Map → Type 0
CarriesStore g m = AreBuckets (meta_of g) m

-- The blocks of the group are placed by the rule, with the front and the base that the session had read.
abbrev pub IsPlaced : Geometry → Map → ℕ → List Tx → KvEntry → Type 0
IsPlaced g start base txs e =
    IsPlacement g e.session (reads_by e).front (reads_by e).base
    (map (planned_by start base txs) (written_by e)) (placed_by e)

abbrev pub store_group : GroupView KvEntry
store_group = record {
  session = λ e. e.session;
  call = λ e. e.call;
  tx = tx_of;
  good = CarriesStore;
  does = Does;
  asks = RanUndrawn;
  placed = IsPlaced;
  keeps = λ g m e does carries. does.buckets;
}
