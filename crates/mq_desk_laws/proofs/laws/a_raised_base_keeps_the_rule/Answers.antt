use Rattle.mq_desk_laws.proofs.RuleTelling.{ok_raised, root_raised}
use Rattle.mq_desk_laws.proofs.laws.a_raised_base_keeps_the_rule.Goals as goal

pub returns : goal.returns
returns g c = record {
  ok = λ b K k base up. ok_raised g.J.JournalValues.values g.J.JournalValues.group b K k base up;
  root = λ b K r k is up low. root_raised g.J.JournalValues.values g.J.JournalValues.group b K r k is up low;
}
