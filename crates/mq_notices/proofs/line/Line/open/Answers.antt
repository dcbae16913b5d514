use Rattle.std.proofs.Common.{rules}
use Rattle.mq_notices.proofs.Keeping.{begins, forks}
use Rattle.mq_notices.proofs.line.Line.open.Goals as goal

pub ruled-requires-clause-rule : goal.ruled-requires-clause-rule
ruled-requires-clause-rule c = begins

pub another-other-requires-clause-rule : goal.another-other-requires-clause-rule
another-other-requires-clause-rule c = forks _ _ (search rules) (search rules)
