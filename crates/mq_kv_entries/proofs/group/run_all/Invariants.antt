use Rattle.std.proofs.Common.{drop}
use Rattle.mq_kv_entries.proofs.WorkingStepped.{IsRun}
use Rattle.mq_kv_entries.proofs.group.run_all.Given as goal

abbrev pub invariant-loop-op : goal.invariant-loop-op
invariant-loop-op l = IsRun l.buckets l.initial.working l.working l.ops (drop l.op-index l.ops) l.replies.items
