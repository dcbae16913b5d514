use Rattle.std.proofs.Common.{◌+◌, ap, length, ◌∙◌}
use Rattle.mq_ledger.specs.State.{State}
use Rattle.mq_core.proofs.machine.Core.last.Goals as goal

pub returns : goal.returns
returns c = c.last.ensures.is ∙ ap (λ (s : State). s.base + length s.history) c.self.view_is
