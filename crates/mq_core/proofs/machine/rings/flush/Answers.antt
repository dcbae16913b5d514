use Rattle.std.proofs.Common.{◌≡◌, ◌<◌, ◌^◌, length, sym, subst, refl, ◌∙◌, arith}
use Rattle.std.proofs.lemmas.Bool.{false≢true}
use Rattle.mq_blocks.specs.Drive.{PortState, staged_end}
use Rattle.mq_ledger.specs.History.{of_queue}
use Rattle.mq_ledger.specs.Items.{end_of}
use Rattle.mq_ledger.specs.State.{port_at, from_at}
use Rattle.mq_core.specs.Answers.{IsStagedTo}
use Rattle.mq_core.specs.Events.{MayFlush}
use Rattle.mq_core.proofs.MachineLifts.{same_port}
use Rattle.mq_core.proofs.MachineParts.{settled_already, small}
use Rattle.mq_core.proofs.machine.rings.flush.Goals as goal
use Rattle.mq_core.proofs.machine.rings.flush.Goals.{Else-at-len, After-index}

own : (c : Else-at-len) → c.args.queue < c.args.ledger.now.geometry.queues
own c = omega (arith, c.requires.held.sides.ports, c.queue.view_is)

is_port : (c : After-index) → c.index.result.now ≡ port_at c.args.ports.now.items c.args.queue
is_port c =
    let inside : c.queue.inside.0 < length c.args.ports.now.items = omega arith in
    same_port c.args.ports.now.items c.args.queue c.queue.inside.0 c.index.result.now inside c.queue.view_is c.index.ensures

pub is_staged_to-requires : goal.is_staged_to-requires
is_staged_to-requires c = subst (λ (p : PortState). staged_end p < 2 ^ 64) (sym (is_port c)) (small c.args.ledger.now c.args.ports.now.items c.requires c.args.queue (own (goal.at.is_staged_to-requires c).Else-at-len))

pub returns-then-not-is_staged_to : goal.returns-then-not-is_staged_to
returns-then-not-is_staged_to c =
    let l = c.args.ledger.now in
    let q = c.args.queue in
    let ports = c.args.ports.now.items in
    let end = c.end-end.result in
    let end_is : end ≡ end_of (from_at l.starts q) (of_queue q l.history) = c.end-end.ensures.is in
    let is = is_port (goal.at.returns-then-not-is_staged_to c).After-index in
    record {
      ports = (
        refl,
        λ a.
            let m : MayFlush (from_at l.starts q) (of_queue q l.history) (port_at ports q) = a.1 in
            let there : IsStagedTo end (port_at ports q) = record { drawn = omega (arith, m.drawn, end_is); whole = omega (arith, m.whole, end_is) } in
            false≢true (sym c.if-not-is_staged_to.true ∙ c.is_staged_to.ensures.1 (subst (λ (p : PortState). IsStagedTo end p) (sym is) there)),
        refl,
      );
      ledger = settled_already l ports c.requires;
    }

pub returns-then-at-len : goal.returns-then-at-len
returns-then-at-len c = record { ports = (refl, λ a. absurd (omega (arith, a.0, c.requires.held.sides.ports, c.queue.view_is)), refl); ledger = settled_already c.args.ledger.now c.args.ports.now.items c.requires }

pub flush_port-requires-clause-queue : goal.flush_port-requires-clause-queue
flush_port-requires-clause-queue c = own (goal.at.flush_port-requires-clause-queue c).Else-at-len

pub returns : goal.returns
returns c =
    let l = c.args.ledger.now in
    let q = c.args.queue in
    let ports = c.args.ports.now.items in
    let end = c.end-end.result in
    let end_is : end ≡ end_of (from_at l.starts q) (of_queue q l.history) = c.end-end.ensures.is in
    let is = is_port (goal.at.returns c).After-index in
    let there : IsStagedTo end (port_at ports q) = subst (λ (p : PortState). IsStagedTo end p) is (c.is_staged_to.ensures.0 c.if-not-is_staged_to.false) in
    record {
      ports = ((own (goal.at.returns c).Else-at-len, record { drawn = omega (arith, there.drawn, end_is); whole = omega (arith, there.whole, end_is) }), c.flush_port.ensures.ports);
      ledger = c.flush_port.ensures.ledger;
    }
