use Rattle.std.proofs.Common.{take}
use Rattle.mq_kv_entries.specs.Groups.{AreLacking}
use Rattle.mq_kv_entries.proofs.missing.gather.Given as goal

abbrev pub invariant-loop-op : goal.invariant-loop-op
invariant-loop-op l = AreLacking l.buckets l.held.cells (take l.op-index l.ops) l.lacking.items
