use Rattle.mq_queue_side.proofs.DrainedReaching.{below_head, done_before, reaches}
use Rattle.mq_queue_side.proofs.laws.a_drain_reaches.Goals as goal

pub returns-clause-last : goal.returns-clause-last
returns-clause-last c = reaches

pub returns-clause-before : goal.returns-clause-before
returns-clause-before c = done_before

pub returns-clause-below : goal.returns-clause-below
returns-clause-below c = below_head
