use Rattle.mq_kv.specs.Opening.{AreFormed}
use Rattle.mq_kv.proofs.checking.check_buckets.Given as goal

abbrev pub invariant-loop-b : goal.invariant-loop-b
invariant-loop-b l = AreFormed l.b l.blocks
