use Rattle.std.proofs.Common.{ℕ, drop}
use Rattle.mq_ledger.specs.History.{blocks_of}
use Rattle.mq_replica.specs.Updates.{AreBelow, IsFirstNotBelow}
use Rattle.mq_replica.proofs.plan.first_not_below.Given as goal

-- what holds of the rest holds of all
abbrev pub invariant-loop-block : goal.invariant-loop-block
invariant-loop-block l = record {
  below : AreBelow l.high (blocks_of (drop l.block-index l.writes)) → AreBelow l.high (blocks_of l.writes);
  first : (b : ℕ) → IsFirstNotBelow l.high (blocks_of (drop l.block-index l.writes)) b → IsFirstNotBelow l.high (blocks_of l.writes) b;
}
