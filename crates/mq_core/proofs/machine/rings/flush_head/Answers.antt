use Rattle.std.proofs.Common.{◌<◌, refl, arith}
use Rattle.mq_core.proofs.MachineParts.{settled_already}
use Rattle.mq_core.proofs.machine.rings.flush_head.Goals as goal
use Rattle.mq_core.proofs.machine.rings.flush_head.Goals.{Else-queue-len}

own : (c : Else-queue-len) → c.args.queue < c.args.ledger.now.geometry.queues
own c = omega (arith, c.requires.held.sides.ports, c.queue.view_is)

pub returns-then-queue-len : goal.returns-then-queue-len
returns-then-queue-len c = record { ports = (refl, λ a. absurd (omega (arith, a.0, c.requires.held.sides.ports, c.queue.view_is)), refl); ledger = settled_already c.args.ledger.now c.args.ports.now.items c.requires }

pub flush_port-requires-clause-queue : goal.flush_port-requires-clause-queue
flush_port-requires-clause-queue c = own (goal.at.flush_port-requires-clause-queue c).Else-queue-len

pub returns : goal.returns
returns c = record { ports = ((own (goal.at.returns c).Else-queue-len, tt), c.flush_port.ensures.ports); ledger = c.flush_port.ensures.ledger }
