use Rattle.std.proofs.Common.{◌<◌, length, refl, arith}
use Rattle.mq_blocks.specs.Drive.{after_store_head}
use Rattle.mq_ledger.specs.History.{of_queue}
use Rattle.mq_ledger.specs.State.{from_at}
use Rattle.mq_core.specs.Answers.{IsCompletedTo}
use Rattle.mq_core.specs.Events.{MayStoreHead}
use Rattle.mq_core.proofs.MachineParts.{queue_answer}
use Rattle.mq_core.proofs.machine.rings.store_head.Goals as goal

pub returns : goal.returns
returns c =
    let l = c.args.ledger.now in
    let ports = c.args.ports.now.items in
    let q = c.args.queue in
    let h = c.args.head in
    let inside : c.queue.inside.0 < length ports = omega arith in
    queue_answer l ports q c.queue.inside.0 c.index_mut.result.now c.try_store_head.new.self inside c.queue.view_is c.index_mut.ensures.value (λ p. IsCompletedTo h p) (λ p. MayStoreHead (from_at l.starts q) (of_queue q l.history) p h) (λ p. after_store_head p h) c.try_store_head.result c.requires.held.sides.ports
    (λ a. record { is_end = c.if-not-is_end.ensures.0 refl; above = a.above; rung = a.rung; posted = a.posted; failed = a.failed })
    (λ m. record { above = m.above; rung = m.rung; posted = m.posted; failed = m.failed }) c.try_store_head.ensures
