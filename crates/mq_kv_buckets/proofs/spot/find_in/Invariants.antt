use Rattle.std.proofs.Common.{◌-◌}
use Rattle.mq_kv_buckets.specs.Buckets.{records_of}
use Rattle.mq_kv_buckets.proofs.Spots.{IsSearched}
use Rattle.mq_kv_buckets.proofs.spot.find_in.Given as goal

-- all records before are of lesser keys
abbrev pub invariant-loop-lengths : goal.invariant-loop-lengths
invariant-loop-lengths l = IsSearched (records_of l.bytes) l.key l.at

abbrev pub decreases-loop-lengths : goal.decreases-loop-lengths
decreases-loop-lengths l = 4096 - l.at
