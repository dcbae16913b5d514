-- What a session was answered for its groups, one after another, and how a run over the ports of a drive ended.
use Rattle.std.specs.Prelude.{◌≡◌, ℕ, Bool, true, false, List, [], ◌∷◌, Option, None, Some, Result, Ok, Err}
use Rattle.mq_blocks.specs.Drive.{PortState}
use Rattle.mq_blocks.specs.Geometry.{meta_of}
use Rattle.mq_blocks.specs.declared.geometry.Geometry.{Geometry}
use Rattle.mq_journal.specs.Raised.{HasRefused, Raises}
use Rattle.mq_journal.specs.declared.refusal.CheckpointRefusal.{CheckpointRefusal}
use Rattle.mq_drive.specs.Steps.{PortFault}
use Rattle.mq_drive.specs.declared.port.Port.{Ghosts}
use Rattle.mq_drive.specs.declared.port.Ports.{Ports}
use Rattle.mq_journal.specs.Numbers.{Seat, Start}
use Rattle.mq_kv.specs.Calls.{IsAnswered, IsDenied}
use Rattle.mq_kv.specs.Opening.{AreFormed, IsOpenedOver}
use Rattle.mq_kv_buckets.specs.declared.operation.KvOp.{KvOp}
use Rattle.mq_kv_buckets.specs.declared.operation.KvReply.{KvReply}
use Rattle.mq_kv_entries.specs.Group.{store_group}
use Rattle.mq_kv_entries.specs.declared.entry.KvEntry.{KvEntry}
use Rattle.mq_kv_text.specs.declared.report.GroupReport.{GroupReport}
use Rattle.mq_kv_text.specs.declared.report.GroupReport.TheVariants.{Large, Off, Synced}
use Rattle.mq_queue_side.specs.declared.answers.Cause.{Cause}
use Rattle.mq_recover.specs.declared.standing.Standing.{Standing}
use Rattle.mq_sessions.specs.Acts.{GoesOn}
use Rattle.mq_sessions.specs.Calls.{HasCalled}
use Rattle.mq_sessions.specs.declared.answers.RefusalCause.TheVariants.{Drive, TooLarge}
use Rattle.mq_tie.specs.Closed.{HasRun}
use Rattle.mq_tie.specs.Runs.{ports_of}
use Rattle.mq_tie.specs.declared.ended.Ended.{Ended}
use Rattle.mq_turns.specs.Desk.{fresh}
use Rattle.mq_kv_run.specs.declared.storing.StoreEnd.{StoreEnd}

-- the group was cut off, which ends the run
abbrev pub is_off : GroupReport → Bool
is_off (Synced s) = false
is_off (Large count) = false
is_off Off = true

module _ {P : Type 0} {G : Ghosts P} (state : P → PortState) (faults : P → List PortFault) where
  -- A call of the session: all that it drew and read before is of its earlier calls, what it knows of numbers does
  -- not fall, and it stays at the desk that was opened so.
  pub record Calls (calls : ℕ) (old new : Seat P KvEntry G) : Type 0 where
    pub called : HasCalled store_group calls old
    pub goes : GoesOn old new
    pub opening : new.opening ≡ old.opening

  -- The session asked the group as a durable one, and this is reported of the answer: it was done; it is too
  -- large; or a port refused.
  pub data IsPlayed (g : Geometry) (queue : ℕ) (ops : List KvOp) (old new : Seat P KvEntry G) : GroupReport
      → Type 0 where
    done : (calls at : ℕ) (drew : Bool) (replies : List KvReply) → Calls calls old new
        → IsAnswered state faults g true queue calls ops at drew replies old new
        → IsPlayed g queue ops old new (Synced (record { replies = replies; at = at }))
    large : (calls count limit : ℕ) (drawn : Option ℕ) → Calls calls old new
        → IsDenied state faults g true queue calls ops old new (TooLarge count limit) drawn
        → IsPlayed g queue ops old new (Large count)
    refused : (calls : ℕ) (why : Cause) (drawn : Option ℕ) → Calls calls old new
        → IsDenied state faults g true queue calls ops old new (Drive why) drawn
        → IsPlayed g queue ops old new Off

  -- So it did with the groups one after another, up to one that was cut off, if there is one.
  pub data ArePlayed (g : Geometry) (queue : ℕ) : (groups : List (List KvOp)) → List GroupReport
      → (old new : Seat P KvEntry G) → Type 0 where
    whole : {v : Seat P KvEntry G} → ArePlayed g queue [] [] v v
    cut_off : {ops : List KvOp} {groups : List (List KvOp)} {old new : Seat P KvEntry G}
        → IsPlayed g queue ops old new Off → ArePlayed g queue (ops ∷ groups) (Off ∷ []) old new
    next : {ops : List KvOp} {groups : List (List KvOp)} {r : GroupReport} {reports : List GroupReport}
        {old mid new : Seat P KvEntry G}
        → IsPlayed g queue ops old mid r → is_off r ≡ false → ArePlayed g queue groups reports mid new
        → ArePlayed g queue (ops ∷ groups) (r ∷ reports) old new

  -- then it made a checkpoint, if one was asked for
  abbrev pub EndsBy : (asked : Bool) → Option (Result ℕ CheckpointRefusal) → (old new : Seat P KvEntry G)
      → Type 0
  EndsBy false None old new = new ≡ old
  EndsBy false (Some answer) old new = ⊥
  EndsBy true None old new = ⊥
  EndsBy true (Some (Ok base)) old new = Raises state faults store_group base old new
  EndsBy true (Some (Err why)) old new = HasRefused state faults store_group why old new

module _ {P : Type 0} (G : Ghosts P) (state : P → PortState) (faults : P → List PortFault) where
  -- A session of a desk that was opened so, the only one, played the groups and then made the checkpoint that was
  -- asked for. The desk was closed, and gave back these ports.
  pub record HasPlayedStore (g : Geometry) (opening : Start P KvEntry G) (queue : ℕ) (first : Seat P KvEntry G)
      (groups : List (List KvOp)) (finish : Bool) (e : StoreEnd P) : Type 0 where
    pub between : Seat P KvEntry G
    pub played : ArePlayed state faults g queue groups e.reports.items first between
    pub last : Seat P KvEntry G
    pub ended : EndsBy state faults finish e.finished between last
    pub left : Ended P KvEntry G
    pub closed : HasRun state faults store_group opening (last ∷ []) left
    pub queues : e.ports.queues.items ≡ ports_of left
    pub root : e.ports.root ≡ left.root.port

  -- A store was opened over these ports and what stands on them, whose buckets are in their form, with one session,
  -- and this was done there.
  pub record HasRunStore (g : Geometry) (ports : Ports P) (s : Standing) (groups : List (List KvOp))
      (finish : Bool) (e : StoreEnd P) : Type 0 where
    pub opening : Start P KvEntry G
    pub opened : IsOpenedOver state faults g ports s opening
    pub formed : AreFormed (meta_of g) s.blocks.items
    pub run : HasPlayedStore g opening 0 (fresh opening 0) groups finish e
