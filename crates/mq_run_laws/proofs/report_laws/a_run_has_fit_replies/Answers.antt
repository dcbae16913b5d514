use Rattle.mq_run_laws.proofs.Replies.{run-fit}
use Rattle.mq_run_laws.proofs.report_laws.a_run_has_fit_replies.Goals as goal

pub returns : goal.returns
returns c = run-fit
