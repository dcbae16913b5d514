use Rattle.std.proofs.Common.{◌-◌}
use Rattle.mq_kv_buckets.specs.Buckets.{records_of}
use Rattle.mq_kv_buckets.specs.Edits.{IsBetween}
use Rattle.mq_kv_buckets.proofs.spot.end_in.Given as goal

abbrev pub invariant-loop-lengths : goal.invariant-loop-lengths
invariant-loop-lengths l = IsBetween (records_of l.bytes) l.at

abbrev pub decreases-loop-lengths : goal.decreases-loop-lengths
decreases-loop-lengths l = 4096 - l.at
