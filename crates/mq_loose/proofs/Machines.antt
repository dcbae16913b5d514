-- The loose machine as one over the journal's states.
use Rattle.mq_ledger.specs.Plain.{plain}
use Rattle.mq_core.proofs.MachineCore.{idle_stays}
use Rattle.mq_core.proofs.MachineLifts.{Machine}
use Rattle.mq_loose.specs.Guards.{entries_in}
use Rattle.mq_loose.specs.Runs.{LooseEvent, IsAllowed, event_of, happens}
use Rattle.mq_loose.specs.Safe.{Facts}
use Rattle.mq_loose.proofs.Runs.{keeps}

abbrev pub loose_machine : Machine
loose_machine = record {
  Event = LooseEvent;
  Facts = λ s. Facts plain s;
  Allowed = λ v s. IsAllowed plain v s;
  happens = λ v s. happens plain v s;
  keeps = λ v s f may. keeps plain v s f may;
  idle_stays = λ v s. idle_stays (entries_in plain s) (event_of v) s;
}
