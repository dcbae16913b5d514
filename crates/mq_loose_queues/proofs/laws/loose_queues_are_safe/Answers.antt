use Rattle.mq_loose_queues.proofs.Core.{facts_over, safe_over}
use Rattle.mq_loose_queues.proofs.laws.loose_queues_are_safe.Goals as goal

pub returns : goal.returns
returns c = λ s h v acknowledged j each. (facts_over s h v acknowledged j each, safe_over s h v acknowledged j each)
