use Rattle.mq_core.proofs.Reach.{between, least, greatest}
use Rattle.mq_core.proofs.laws.reach_is_exact.Goals as goal

pub returns-clause-between : goal.returns-clause-between
returns-clause-between c = between

pub returns-clause-least : goal.returns-clause-least
returns-clause-least c = least

pub returns-clause-greatest : goal.returns-clause-greatest
returns-clause-greatest c = greatest
