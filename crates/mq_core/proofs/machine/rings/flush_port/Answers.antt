use Rattle.std.proofs.Common.{◌≡◌, ◌<◌, ◌^◌, length, set, sym, ap, subst, ◌∙◌, arith}
use Rattle.std.proofs.lemmas.List.{length-set}
use Rattle.mq_blocks.specs.Drive.{PortState, staged_end, after_flush}
use Rattle.mq_ledger.specs.State.{port_at}
use Rattle.mq_core.specs.Settled.{IsSettled, settled}
use Rattle.mq_core.proofs.MachineLifts.{set_port}
use Rattle.mq_core.proofs.MachineParts.{flush_sides_settled, same, small}
use Rattle.mq_core.proofs.machine.rings.flush_port.Goals as goal
use Rattle.mq_core.proofs.machine.rings.flush_port.Goals.{After-queue, After-index_mut, After-flush, After-deref}

within : (c : After-queue) → c.queue.inside.0 < length c.args.ports.now.items
within c = omega (arith, c.requires.queue, c.requires.sides.held.sides.ports, c.queue.view_is)

is_port : (c : After-index_mut) → c.index_mut.result.now ≡ port_at c.args.ports.now.items c.args.queue
is_port c = same c.args.ledger.now c.args.ports.now.items c.args.queue c.queue.inside.0 c.index_mut.result.now c.index_mut.result.now (within (goal.at.After-index_mut c).After-queue) c.queue.view_is c.index_mut.ensures.value

pub flush-requires-clause-ring : goal.flush-requires-clause-ring
flush-requires-clause-ring c =
    let port = (c.requires.sides.held.sides.sides c.args.queue c.requires.queue).port in
    subst (λ (p : PortState). length p.flushed ≡ length p.staged) (sym (is_port c)) (port.flushed ∙ sym port.staged)

pub flush-requires-clause-room : goal.flush-requires-clause-room
flush-requires-clause-room c = subst (λ (p : PortState). staged_end p < 2 ^ 64) (sym (is_port c)) (small c.args.ledger.now c.args.ports.now.items c.requires.sides c.args.queue c.requires.queue)

ports_are : (c : After-flush) → set c.args.ports.now.items c.queue.inside.0 c.flush.new.self ≡ set c.args.ports.now.items c.args.queue (after_flush (port_at c.args.ports.now.items c.args.queue))
ports_are c =
    let inside : c.queue.inside.0 < length c.args.ports.now.items = within (goal.at.After-flush c).After-queue in
    set_port after_flush c.args.ports.now.items c.args.queue c.queue.inside.0 c.index_mut.result.now c.flush.new.self inside c.queue.view_is c.index_mut.ensures.value c.flush.ensures

seen : (c : After-deref) → c.deref.result.now ≡ set c.args.ports.now.items c.args.queue (after_flush (port_at c.args.ports.now.items c.args.queue))
seen c = c.deref.ensures.value ∙ ports_are (goal.at.After-deref c).After-flush

pub settle_all-requires-clause-ports : goal.settle_all-requires-clause-ports
settle_all-requires-clause-ports c = ap length c.deref.ensures.value ∙ length-set c.args.ports.now.items c.queue.inside.0 c.flush.new.self ∙ c.requires.sides.held.sides.ports

pub settle_all-requires-clause-done : goal.settle_all-requires-clause-done
settle_all-requires-clause-done c = subst (λ ports. IsSettled c.args.ledger.now ports) (sym (seen c)) (flush_sides_settled c.args.ledger.now c.args.ports.now.items c.requires.sides c.args.queue c.requires.queue)

pub returns : goal.returns
returns c = record {
  ports = ports_are (goal.at.returns c).After-flush;
  ledger = c.settle_all.ensures ∙ ap (λ ps. settled ps c.args.ledger.now) c.deref.ensures.value;
}
