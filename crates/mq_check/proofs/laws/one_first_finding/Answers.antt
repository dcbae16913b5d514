use Rattle.mq_check.proofs.Firsts.{one-first}
use Rattle.mq_check.proofs.laws.one_first_finding.Goals as goal

pub returns : goal.returns
returns c = one-first
