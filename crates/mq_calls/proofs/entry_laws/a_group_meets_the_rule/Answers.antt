use Rattle.mq_calls.proofs.LawsRuling.{fits, may}
use Rattle.mq_calls.proofs.entry_laws.a_group_meets_the_rule.Goals as goal

pub returns : goal.returns
returns g c = record {
  may = may g.J.JournalValues.values c.a_done_group_may_be_drawn.ensures;
  fits = fits g.J.JournalValues.values;
}
