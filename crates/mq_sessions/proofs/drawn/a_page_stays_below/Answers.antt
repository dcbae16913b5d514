use Rattle.mq_sessions.proofs.DrawnSettled.{stays_below}
use Rattle.mq_sessions.proofs.drawn.a_page_stays_below.Goals as goal

pub returns : goal.returns
returns c = stays_below
