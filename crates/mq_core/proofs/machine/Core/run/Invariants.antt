use Rattle.std.specs.Vec.Iter.{into_iter_items}
use Rattle.mq_core.proofs.MachineCore.{core_machine}
use Rattle.mq_core.proofs.MachineRunning.{Leads}
use Rattle.mq_core.proofs.machine.Core.run.Given as goal

-- the events so far have happened
abbrev pub invariant-loop-event : goal.invariant-loop-event
invariant-loop-event l = Leads core_machine l.fn.events.items l.fn.start (into_iter_items l.event-iterator) l.core l.index
