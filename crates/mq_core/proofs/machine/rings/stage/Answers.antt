use Rattle.std.proofs.Common.{◌≡◌, ◌<◌, ◌^◌, length, sym, ap, subst, ◌∙◌, arith}
use Rattle.mq_blocks.specs.Drive.{PortState, staged_end}
use Rattle.mq_ledger.specs.State.{port_at}
use Rattle.mq_core.proofs.MachineParts.{same, small}
use Rattle.mq_core.proofs.machine.rings.stage.Goals as goal
use Rattle.mq_core.proofs.machine.rings.stage.Goals.{After-queue, After-index_mut}

within : (c : After-queue) → c.queue.inside.0 < length c.args.ports.now.items
within c = omega (arith, c.requires.queue, c.requires.sides.held.sides.ports, c.queue.view_is)

is_port : (c : After-index_mut) → c.index_mut.result.now ≡ port_at c.args.ports.now.items c.args.queue
is_port c = same c.args.ledger.now c.args.ports.now.items c.args.queue c.queue.inside.0 c.index_mut.result.now c.index_mut.result.now (within (goal.at.After-index_mut c).After-queue) c.queue.view_is c.index_mut.ensures.value

pub stage-requires-clause-ring : goal.stage-requires-clause-ring
stage-requires-clause-ring c = (let port = (c.requires.sides.held.sides.sides c.args.queue c.requires.queue).port in ap (λ (p : PortState). length p.staged) (is_port c) ∙ port.staged)

pub stage-requires-clause-room : goal.stage-requires-clause-room
stage-requires-clause-room c = subst (λ (p : PortState). staged_end p < 2 ^ 64) (sym (is_port c)) (small c.args.ledger.now c.args.ports.now.items c.requires.sides c.args.queue c.requires.queue)
