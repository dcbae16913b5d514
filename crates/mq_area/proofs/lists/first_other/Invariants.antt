use Rattle.mq_area.specs.Reading.{IsZero}
use Rattle.mq_area.proofs.lists.first_other.Given as goal

abbrev pub invariant-loop-k : goal.invariant-loop-k
invariant-loop-k l = IsZero l.from l.k l.block
