use Rattle.mq_run_laws.proofs.CutsNextRun.{clean-home, next-starts, starts-once}
use Rattle.mq_run_laws.proofs.CutsStarting.{run-ends, volume-starts}
use Rattle.mq_run_laws.proofs.history_laws.a_run_goes_on.Goals as goal

pub returns : goal.returns
returns c = record { once = starts-once; next = next-starts; clean = clean-home; starts = volume-starts; cut = run-ends }
