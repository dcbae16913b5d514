-- What a group that a session commits is answered, and why it is refused.
use Rattle.std.specs.Prelude.{ℕ, Bool, true, false, List, Option}
use Rattle.mq_blocks.specs.Drive.{PortState}
use Rattle.mq_blocks.specs.declared.geometry.Geometry.{Geometry}
use Rattle.mq_drive.specs.Steps.{PortFault}
use Rattle.mq_drive.specs.declared.port.Port.{Ghosts}
use Rattle.mq_journal.specs.Numbers.{Seat}
use Rattle.mq_kv_buckets.specs.declared.operation.KvOp.{KvOp}
use Rattle.mq_kv_buckets.specs.declared.operation.KvReply.{KvReply}
use Rattle.mq_kv_entries.specs.Calls.{store_calls}
use Rattle.mq_kv_entries.specs.Group.{store_group}
use Rattle.mq_kv_entries.specs.declared.entry.KvEntry.{KvEntry}
use Rattle.mq_sessions.specs.Attempts.{HasActed, HasNotWaited}
use Rattle.mq_sessions.specs.Calls.{call_by}
use Rattle.mq_sessions.specs.Refusing.{IsRefused}
use Rattle.mq_sessions.specs.Synchronizing.{IsDurable, IsNotDurable}
use Rattle.mq_sessions.specs.declared.answers.RefusalCause.{RefusalCause}

module _ {P : Type 0} {G : Ghosts P} (state : P → PortState) (faults : P → List PortFault) where
  -- The group is a commit in the history at the number, or a read there. Where it is durable the session knows
  -- every number up to it to be done; else nothing was waited for after the group.
  abbrev pub IsAnswered : Geometry → (durable : Bool) → (session calls : ℕ) → List KvOp → (at : ℕ)
      → (drew : Bool) → List KvReply → Seat P KvEntry G → Seat P KvEntry G → Type 0
  IsAnswered g true session calls ops at drew replies old new =
      IsDurable state faults store_group store_calls g (call_by session calls true ops) at drew replies old new
  IsAnswered g false session calls ops at drew replies old new =
      HasActed state faults store_group store_calls g (call_by session calls false ops) at drew replies old new
      × HasNotWaited state faults store_group store_calls g (call_by session calls false ops) at drew old new

  -- why it is refused, with the number that it had drawn, and what that leaves
  abbrev pub IsDenied : Geometry → (durable : Bool) → (session calls : ℕ) → List KvOp
      → Seat P KvEntry G → Seat P KvEntry G → RefusalCause → Option ℕ → Type 0
  IsDenied g true session calls ops old new cause drawn =
      IsNotDurable state faults store_group store_calls g (call_by session calls true ops) old new cause drawn
  IsDenied g false session calls ops old new cause drawn =
      IsRefused state faults store_group store_calls g (call_by session calls false ops) old new cause drawn
