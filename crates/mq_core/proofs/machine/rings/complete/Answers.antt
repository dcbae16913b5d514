use Rattle.std.proofs.Common.{◌<◌, length, sym, subst, arith}
use Rattle.mq_blocks.specs.Drive.{PortState}
use Rattle.mq_core.specs.Events.{MayEnd, complete_side, command_with}
use Rattle.mq_core.specs.Within.{IsWithin}
use Rattle.mq_core.proofs.MachineParts.{posted_there, queue_answer, same}
use Rattle.mq_core.proofs.machine.rings.complete.Goals as goal

pub complete-requires : goal.complete-requires
complete-requires c =
    let l = c.args.ledger.now in
    let ports = c.args.ports.now.items in
    let q = c.args.queue in
    let n = c.args.count in
    let inside : c.queue.inside.0 < length ports = omega arith in
    let own : q < l.geometry.queues = omega (arith, c.requires.held.sides.ports, c.queue.view_is) in
    subst (λ (p : PortState). MayEnd n p → IsWithin p (command_with n p.posted).lba) (sym (same l ports q c.queue.inside.0 c.index_mut.result.now c.index_mut.result.now inside c.queue.view_is c.index_mut.ensures.value)) (posted_there l ports c.requires q own n)

pub returns : goal.returns
returns c =
    let l = c.args.ledger.now in
    let ports = c.args.ports.now.items in
    let n = c.args.count in
    let inside : c.queue.inside.0 < length ports = omega arith in
    queue_answer l ports c.args.queue c.queue.inside.0 c.index_mut.result.now c.complete.new.self inside c.queue.view_is c.index_mut.ensures.value (λ p. MayEnd n p) (λ p. MayEnd n p) (complete_side n) c.complete.result c.requires.held.sides.ports (λ a. a) (λ a. a) c.complete.ensures
