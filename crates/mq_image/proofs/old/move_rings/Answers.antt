use Rattle.std.proofs.Common.{◌≡◌, ◌<◌, ℕ, sym, subst, length, arith}
use Rattle.mq_blocks.specs.Drive.{PortImage}
use Rattle.mq_image.specs.Old.{AreMoved, IsOldPort}
use Rattle.mq_image.proofs.OldMoves.{moved-first, moved-next}
use Rattle.mq_image.proofs.old.move_rings.Goals as goal

pub loop-queue-init : goal.loop-queue-init
loop-queue-init c = moved-first c.args.ports.now.items

pub move_ring_of-requires-clause-inside : goal.move_ring_of-requires-clause-inside
move_ring_of-requires-clause-inside c = let n = c.loop-queue.invariant.count_is in let f = c.requires.few in omega arith

pub move_ring_of-requires-clause-old : goal.move_ring_of-requires-clause-old
move_ring_of-requires-clause-old c =
    subst (λ (p : PortImage). IsOldPort p) (sym (c.loop-queue.invariant.rest c.loop-queue.queue (omega arith))) (c.requires.old c.loop-queue.queue (omega arith))

pub loop-queue-preserved : goal.loop-queue-preserved
loop-queue-preserved c =
    let f = c.requires.few in
    let l : c.loop-queue.queue < length c.args.ports.now.items = omega arith in
    moved-next c.loop-queue.queue c.args.ports.now.items c.loop-queue.ports.items _ c.loop-queue.invariant l c.in_ok-move_ring_of.ensures

pub returns : goal.returns
returns c =
    let e : c.loop-queue.queue ≡ c.args.queues = omega arith in
    subst (λ (n : ℕ). AreMoved n c.args.ports.now.items c.loop-queue.ports.items) e c.loop-queue.invariant
