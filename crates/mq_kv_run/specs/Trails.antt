-- Where the points of a run stand in the history of its desk.
use Rattle.std.specs.Prelude.{◌≡◌, ◌⊎◌, ◌<◌, ◌≤◌, ℕ, ◌+◌, List, [], ◌∷◌, length, Option, Some}
use Rattle.mq_blocks.specs.Blocks.{content}
use Rattle.mq_blocks.specs.Drive.{PortState}
use Rattle.mq_blocks.specs.Geometry.{meta_of}
use Rattle.mq_blocks.specs.declared.geometry.Geometry.{Geometry}
use Rattle.mq_desk_laws.specs.Rule.{history, start_of}
use Rattle.mq_drive.specs.Steps.{PortFault}
use Rattle.mq_drive.specs.declared.port.Port.{Ghosts}
use Rattle.mq_journal.specs.Numbers.{Seat, Shared}
use Rattle.mq_journal.specs.Values.{side_values}
use Rattle.mq_kv_buckets.specs.declared.operation.KvOp.{KvOp}
use Rattle.mq_kv_entries.specs.Group.{store_group}
use Rattle.mq_kv_entries.specs.declared.entry.KvEntry.{KvEntry}
use Rattle.mq_kv_run.specs.Groups.{IsCommit, Point}
use Rattle.mq_ledger.specs.History.{map_after}
use Rattle.mq_ledger.specs.Items.{total}
use Rattle.mq_ledger.specs.declared.tx.Tx.{Tx}

-- all of these groups are of the first session, and so on the first queue
abbrev pub AreOfFirst : List KvEntry → Type 0
AreOfFirst [] = Unit {0}
AreOfFirst (e ∷ es) = (e.session ≡ 0) × AreOfFirst es

module _ {P : Type 0} {G : Ghosts P} (state : P → PortState) (faults : P → List PortFault) where
  -- the transactions of these groups, the newest first, on what was known at the opening
  abbrev pub txs_of : Shared P KvEntry G → List KvEntry → List Tx
  txs_of K es = history (side_values {G = G} state faults) store_group K.opening.base es

  -- The point stands behind these groups, the newest first: its number is the last one there, its buckets are those
  -- that they leave, and they have as many entries in the ring.
  pub record IsPointAt (g : Geometry) (K : Shared P KvEntry G) (es : List KvEntry) (p : Point) : Type 0 where
    pub number : p.number ≡ K.opening.base + length es
    pub each : (b : ℕ) → b < meta_of g
        → content (p.map b)
        ≡ content (map_after (start_of (side_values state faults) store_group K.opening) (txs_of K es) b)
    pub entries : p.entries ≡ total (txs_of K es)

  -- The last group of the history is the one that was cut off.
  pub record IsCutLast (g : Geometry) (K : Shared P KvEntry G) (last : Point) (off : Option (List KvOp))
      (newest : Point) : Type 0 where
    pub ops : List KvOp
    pub off_is : off ≡ Some ops
    pub entry : KvEntry
    pub before : List KvEntry
    pub log : K.log ≡ entry ∷ before
    pub at : IsPointAt g K before last
    pub commit : IsCommit g last ops newest
    pub behind : IsPointAt g K K.log newest

  -- The newest point stands behind the whole history: it is the last one that was told of, or the one behind the
  -- group that was cut off.
  abbrev pub IsNewest : Geometry → Shared P KvEntry G → (last : Point) → (off : Option (List KvOp)) → Point → Type 0
  IsNewest g K last off newest = ((newest ≡ last) × IsPointAt g K K.log last) ⊎ IsCutLast g K last off newest

  -- This is how the history of a desk with one session follows what is told of its groups: all of it is of this
  -- session, which had seen and drawn up to its end, and knows all that is told of to be done.
  pub record FollowsTold (g : Geometry) (K : Shared P KvEntry G) (v : Seat P KvEntry G) (last : Point)
      (off : Option (List KvOp)) (newest : Point) : Type 0 where
    pub own : AreOfFirst K.log
    pub newest_is : IsNewest g K last off newest
    pub done : (last.number ≤ v.reading.done) ⊎ (last.number ≡ K.opening.base)
