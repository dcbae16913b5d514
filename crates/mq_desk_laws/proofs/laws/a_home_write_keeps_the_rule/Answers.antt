use Rattle.mq_desk_laws.proofs.RuleTelling.{ok_written, page_written}
use Rattle.mq_desk_laws.proofs.laws.a_home_write_keeps_the_rule.Goals as goal

pub returns : goal.returns
returns g c = record {
  ok = λ b version logged home K k bring. ok_written g.J.JournalValues.values g.J.JournalValues.group b version logged home K k bring;
  page = λ b K cell p bring. page_written g.J.JournalValues.values g.J.JournalValues.group b K cell p bring;
}
