use Rattle.std.proofs.Common.{subst}
use Rattle.mq_ledger.specs.Plain.{plain}
use Rattle.mq_loose.specs.Safe.{Facts, IsSafe}
use Rattle.mq_loose.proofs.Safe.{safe_from}
use Rattle.mq_loose.proofs.machine.LooseCore.is_safe.Goals as goal

pub returns : goal.returns
returns c = record {
  safe = subst (λ s. IsSafe plain s) c.self.view_is (safe_from plain _ c.self.invariant.held.facts);
  facts = subst (λ s. Facts plain s) c.self.view_is c.self.invariant.held.facts;
}
