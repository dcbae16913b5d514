-- What a session has seen never falls along its groups.
use Rattle.std.proofs.Common.{ℕ, ◌≤◌, List, arith}
use Rattle.mq_blocks.specs.Drive.{PortState}
use Rattle.mq_blocks.specs.declared.geometry.Geometry.{Geometry}
use Rattle.mq_drive.specs.Steps.{PortFault}
use Rattle.mq_drive.specs.declared.port.Port.{Ghosts}
use Rattle.mq_journal.specs.Numbers.{Seat}
use Rattle.mq_kv_buckets.specs.declared.operation.KvOp.{KvOp}
use Rattle.mq_kv_entries.specs.declared.entry.KvEntry.{KvEntry}
use Rattle.mq_kv_run.specs.Played.{ArePlayed, IsPlayed, cut_off, done, large, next, refused, whole}
use Rattle.mq_kv_text.specs.declared.report.GroupReport.{GroupReport}

module _ {P : Type 0} {G : Ghosts P} (state : P → PortState) (faults : P → List PortFault) (g : Geometry) (queue : ℕ) where
  group-seen : (ops : List KvOp) (old new : Seat P KvEntry G) (t : GroupReport) → IsPlayed state faults g queue ops old new t → old.seen ≤ new.seen
  group-seen ops old new _ (done calls at drew replies c is) = c.goes.seen
  group-seen ops old new _ (large calls count limit drawn c is) = c.goes.seen
  group-seen ops old new _ (refused calls why drawn c is) = c.goes.seen

  pub played-seen : (groups : List (List KvOp)) (reports : List GroupReport) (old new : Seat P KvEntry G) → ArePlayed state faults g queue groups reports old new → old.seen ≤ new.seen
  played-seen _ _ old _ whole = omega arith
  played-seen _ _ old new (cut_off {ops = ops} one) = group-seen ops old new _ one
  played-seen _ _ old new (next {ops = ops} {groups = groups} {r = r} {reports = reports} {mid = mid} one on more) =
      let first = group-seen ops old mid r one in
      let rest = played-seen groups reports mid new more in
      omega arith
