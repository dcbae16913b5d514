use Rattle.std.proofs.Common.{subst}
use Rattle.mq_ledger.specs.Plain.{plain}
use Rattle.mq_ledger.specs.State.{IsLawful}
use Rattle.mq_core.proofs.MachineFacts.{lawful_from}
use Rattle.mq_core.proofs.machine.Core.is_lawful.Goals as goal

pub returns : goal.returns
returns c = subst (λ s. IsLawful plain s) c.self.view_is (lawful_from plain _ c.self.invariant.facts)
