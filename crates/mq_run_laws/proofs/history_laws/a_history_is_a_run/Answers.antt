use Rattle.std.proofs.Common.{refl}
use Rattle.mq_run_laws.proofs.Histories.{asks-on, history-changes, history-laid, lines-at, lines-newest, lines-run, stays-on, stays-on-map}
use Rattle.mq_run_laws.proofs.history_laws.a_history_is_a_run.Goals as goal

pub returns : goal.returns
returns c = record {
  laid = history-laid;
  changes = history-changes;
  asks = asks-on;
  stays = stays-on;
  stays_on = stays-on-map;
  run = λ g scripts m v base es lines low laid are. lines-run g scripts m v base base es lines low laid refl are;
  at = λ g scripts m v base n es lines low laid are. lines-at g scripts m v base n es lines low laid are;
  newest = λ g scripts m base es lines are. lines-newest g scripts m base base es lines refl are;
}
