use Rattle.mq_run_laws.proofs.ReportImages.{may-be-reported}
use Rattle.mq_run_laws.proofs.report_laws.a_run_on_an_image_may_be_reported.Goals as goal

pub returns : goal.returns
returns c = may-be-reported
