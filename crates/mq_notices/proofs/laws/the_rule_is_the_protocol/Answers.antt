use Rattle.mq_notices.proofs.Protocols.{rule-is-protocol}
use Rattle.mq_notices.proofs.laws.the_rule_is_the_protocol.Goals as goal

pub returns : goal.returns
returns c = rule-is-protocol
