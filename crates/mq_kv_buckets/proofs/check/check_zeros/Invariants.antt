use Rattle.mq_kv_buckets.specs.Buckets.{AreZeros}
use Rattle.mq_kv_buckets.proofs.check.check_zeros.Given as goal

abbrev pub invariant-loop-k : goal.invariant-loop-k
invariant-loop-k l = AreZeros l.bytes l.from l.k
