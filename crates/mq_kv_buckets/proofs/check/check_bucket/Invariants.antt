use Rattle.std.proofs.Common.{◌-◌}
use Rattle.mq_kv_buckets.proofs.BucketsChecked.{IsRead}
use Rattle.mq_kv_buckets.proofs.check.check_bucket.Given as goal

-- the records before are good
abbrev pub invariant-loop-lengths : goal.invariant-loop-lengths
invariant-loop-lengths l = IsRead l.bytes l.last l.at

abbrev pub decreases-loop-lengths : goal.decreases-loop-lengths
decreases-loop-lengths l = 4096 - l.at
