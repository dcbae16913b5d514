use Rattle.mq_kv_text.proofs.ReportsBack.{one_report}
use Rattle.mq_kv_text.proofs.laws.a_text_has_one_report.Goals as goal

pub returns : goal.returns
returns c = one_report
