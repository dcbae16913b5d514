use Rattle.mq_sessions.proofs.DrawnPages.{nothing-left}
use Rattle.mq_sessions.proofs.laws.no_page_is_left.Goals as goal

pub returns : goal.returns
returns g c = λ cells v slot is. nothing-left cells slot v.held is
