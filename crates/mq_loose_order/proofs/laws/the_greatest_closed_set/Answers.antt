use Rattle.mq_loose_order.proofs.Closed.{closure_closed, closure_greatest}
use Rattle.mq_loose_order.proofs.laws.the_greatest_closed_set.Goals as goal

pub returns-clause-closed : goal.returns-clause-closed
returns-clause-closed c = closure_closed

pub returns-clause-greatest : goal.returns-clause-greatest
returns-clause-greatest c = closure_greatest
