use Rattle.mq_desk_laws.proofs.RuleStaying.{page_along, root_along, side_along}
use Rattle.mq_desk_laws.proofs.laws.values_stay.Goals as goal

pub returns : goal.returns
returns g c = record {
  page = λ b K L x s h. page_along g.J.JournalValues.values g.J.JournalValues.group b K L x s h;
  side = λ q K L x s k l h. side_along g.J.JournalValues.values g.J.JournalValues.group q K L x s k l h;
  root = λ K L x s k l h. root_along g.J.JournalValues.values g.J.JournalValues.group K L x s k l h;
}
