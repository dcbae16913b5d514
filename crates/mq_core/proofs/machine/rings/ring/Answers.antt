use Rattle.std.proofs.Common.{◌≡◌, ◌<◌, ◌^◌, length, sym, subst, arith}
use Rattle.mq_blocks.specs.Drive.{PortState, after_ring, staged_end}
use Rattle.mq_ledger.specs.History.{of_queue}
use Rattle.mq_ledger.specs.Items.{end_of}
use Rattle.mq_ledger.specs.State.{from_at}
use Rattle.mq_core.specs.Answers.{IsFlushedTo}
use Rattle.mq_core.specs.Events.{MayRing}
use Rattle.mq_core.proofs.MachineParts.{queue_answer, same, small}
use Rattle.mq_core.proofs.machine.rings.ring.Goals as goal

pub ring-requires : goal.ring-requires
ring-requires c =
    let l = c.args.ledger.now in
    let ports = c.args.ports.now.items in
    let q = c.args.queue in
    let inside : c.queue.inside.0 < length ports = omega arith in
    let own : q < l.geometry.queues = omega (arith, c.requires.held.sides.ports, c.queue.view_is) in
    subst (λ (p : PortState). staged_end p < 2 ^ 64) (sym (same l ports q c.queue.inside.0 c.index_mut.result.now c.index_mut.result.now inside c.queue.view_is c.index_mut.ensures.value)) (small l ports c.requires q own)

pub returns : goal.returns
returns c =
    let l = c.args.ledger.now in
    let ports = c.args.ports.now.items in
    let q = c.args.queue in
    let end = c.end-end.result in
    let end_is : end ≡ end_of (from_at l.starts q) (of_queue q l.history) = c.end-end.ensures.is in
    let inside : c.queue.inside.0 < length ports = omega arith in
    queue_answer l ports q c.queue.inside.0 c.index_mut.result.now c.ring.new.self inside c.queue.view_is c.index_mut.ensures.value (λ p. IsFlushedTo end p) (λ p. MayRing (from_at l.starts q) (of_queue q l.history) p) after_ring c.ring.result c.requires.held.sides.ports
    (λ a. record { drawn = omega (arith, a.drawn, end_is); whole = omega (arith, a.whole, end_is); flushed = omega (arith, a.flushed, end_is) })
    (λ m. record { drawn = omega (arith, m.drawn, end_is); whole = omega (arith, m.whole, end_is); flushed = omega (arith, m.flushed, end_is) }) c.ring.ensures
