use Rattle.mq_desk_laws.proofs.RuleSettled.{front_claimed}
use Rattle.mq_desk_laws.proofs.RuleTelling.{ok_claimed, side_claimed}
use Rattle.mq_desk_laws.proofs.laws.claims_keep_the_rule.Goals as goal

pub returns : goal.returns
returns g c = record {
  ok = λ claim K k low. ok_claimed g.J.JournalValues.values g.J.JournalValues.group claim K k low;
  side = λ claim K w k is past. side_claimed g.J.JournalValues.values g.J.JournalValues.group claim K w k is past;
  front = λ n K k low each. front_claimed g.J.JournalValues.values g.J.JournalValues.group n K k low each;
}
