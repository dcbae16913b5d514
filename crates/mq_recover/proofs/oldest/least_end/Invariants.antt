use Rattle.std.proofs.Common.{MatchOption}
use Rattle.mq_recover.specs.Ends.{AreEmpty, IsLeast}
use Rattle.mq_recover.proofs.oldest.least_end.Given as goal

-- it is the least end of the chains so far
abbrev pub invariant-loop-q : goal.invariant-loop-q
invariant-loop-q l = MatchOption l.least (AreEmpty l.q l.chains) (IsLeast l.q l.chains)
