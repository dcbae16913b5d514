use Rattle.mq_desk_laws.proofs.RuleTelling.{ok_charged, root_charged, side_charged}
use Rattle.mq_desk_laws.proofs.laws.charges_keep_the_rule.Goals as goal

pub returns : goal.returns
returns g c = record {
  ok = λ charge K k port. ok_charged g.J.JournalValues.values g.J.JournalValues.group charge K k port;
  side = λ charge q K w u mine is says was backed. side_charged g.J.JournalValues.values g.J.JournalValues.group charge q K w u mine is says was backed;
  root = λ charge K r s mine is was backed. root_charged g.J.JournalValues.values g.J.JournalValues.group charge K r s mine is was backed;
}
