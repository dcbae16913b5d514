use Rattle.mq_sessions.proofs.PagesHolding.{cells-now}
use Rattle.mq_sessions.proofs.laws.held_pages_are_current.Goals as goal

pub returns : goal.returns
returns g c = λ o cells v K b x opening h s e. cells-now g.M.Machine.meaning c.obeys.ensures o cells v K b x opening h s e
