use Rattle.mq_sessions.proofs.PagesOfMap.{map-of-cells}
use Rattle.mq_sessions.proofs.laws.current_pages_are_of_the_map.Goals as goal

pub returns : goal.returns
returns g c = λ cells K are b page e. map-of-cells g.J.JournalValues.values g.J.JournalValues.group cells K are b page e
