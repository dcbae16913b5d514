use Rattle.mq_report.proofs.Reports.{one-reading}
use Rattle.mq_report.proofs.laws.a_text_has_one_reading.Goals as goal

pub returns : goal.returns
returns c = one-reading
