use Rattle.mq_run_laws.proofs.HistoriesLogs.{log-does, log-map}
use Rattle.mq_run_laws.proofs.history_laws.a_log_is_a_history.Goals as goal

pub returns : goal.returns
returns g c = record {
  does = log-does g.J.JournalValues.values;
  leads = log-map g.J.JournalValues.values;
}
