use Rattle.mq_run_laws.proofs.SmallRun.{answered-twice, no-answers, no-changing, no-good-ask, no-large, no-later, no-line, no-reached, no-read, no-status, no-stopped-ask, no-swap, number-twice, small-answered, small-caused, small-cut, small-legal}
use Rattle.mq_run_laws.proofs.history_laws.a_small_run.Goals as goal

pub returns : goal.returns
returns c = record {
  legal = small-legal;
  answered = (small-answered, small-caused);
  cut = small-cut;
  no_line = no-line;
  no_answers = no-answers;
  once = answered-twice;
  no_read = no-read;
  no_swap = no-swap;
  no_twice = number-twice;
  no_large = no-large;
  no_changes = no-changing;
  no_ask = no-good-ask;
  no_later = no-later;
  no_reached = no-reached;
  no_status = no-status;
  no_stopped_ask = no-stopped-ask;
}
