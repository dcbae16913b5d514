use Rattle.mq_journal.specs.Values.{side_values}
use Rattle.mq_desk_laws.proofs.Meaning.{laws}
use Rattle.mq_journal.proofs.machine.JournalMachineMachine.obeys.Goals as goal

pub returns : goal.returns
returns g c = laws (side_values g.P.Port.state g.P.Port.faults) g.G.Groups.group
