use Rattle.std.proofs.Common.{ap, ◌∙◌}
use Rattle.mq_ledger.specs.State.{front_of}
use Rattle.mq_core.proofs.machine.Core.done.Goals as goal

pub returns : goal.returns
returns c = c.front.ensures.is ∙ c.self.invariant.front_is ∙ ap front_of c.self.view_is
