use Rattle.std.specs.Vec.Iter.{into_iter_items}
use Rattle.mq_loose.proofs.Machines.{loose_machine}
use Rattle.mq_core.proofs.MachineRunning.{Leads}
use Rattle.mq_loose.proofs.machine.LooseCore.run.Given as goal

-- the events so far have happened
abbrev pub invariant-loop-event : goal.invariant-loop-event
invariant-loop-event l = Leads loose_machine l.fn.events.items l.fn.start (into_iter_items l.event-iterator) l.core l.index
