use Rattle.std.proofs.Common.{arith, get_or, ◌+◌, ◌^◌, refl, ◌≡◌, ◌*◌, ◌<◌}
use Rattle.mq_layout.specs.Slots.{Entry}
use Rattle.mq_tree.specs.Decoded.{count_of}
use Rattle.mq_tree.proofs.LinksCounted.{counts-add, counts-all, counts-fit, counts-skip, counts-start}
use Rattle.mq_tree.proofs.links.count_slots.Goals as goal
use Rattle.mq_tree.proofs.links.count_slots.Goals.{in-Some, in_default}

pub loop-k-init : goal.loop-k-init
loop-k-init c = counts-start _ _ _ _ refl

pub overflow_add-counts : goal.overflow_add-counts
overflow_add-counts c =
    let low : c.loop-k.k < 15 * count_of c.args.inode.now = let t = c.loop-k-test.true in let e = c.block_count-k-end.ensures.is in omega arith in
    let e : Entry = record { inode = c.in-Some.link.inode; name = c.in-Some.link.name.now } in
    let inside = c.requires.inside c.loop-k.k e low c.in-Some.ensures in
    let fit : get_or c.loop-k.counts e.inode 0 + 1 < 2 ^ 32 = counts-fit c.args.blocks.now c.args.inode.now c.args.counts.now c.loop-k.counts c.loop-k.k e c.loop-k.invariant inside low c.requires.few in
    omega arith

pub loop-k-preserved : goal.loop-k-preserved
loop-k-preserved c =
    let low : c.loop-k.k < 15 * count_of c.args.inode.now = let t = c.loop-k-test.true in let e = c.block_count-k-end.ensures.is in omega arith in
    elim c.match-slot_at.branch [
      | in-Some w ↦ counts-add _ c.args.inode.now c.args.counts.now c.loop-k.counts _ c.loop-k.k _ c.loop-k.invariant w.in-Some.ensures (c.requires.inside c.loop-k.k _ low w.in-Some.ensures) w.counts-is
      | in_default w ↦ counts-skip _ c.args.inode.now c.args.counts.now c.loop-k.counts _ c.loop-k.k c.loop-k.invariant w.in_default.ensures w.counts-is
    ]

pub returns-clause-counted : goal.returns-clause-counted
returns-clause-counted c =
    let all : c.loop-k.k ≡ 15 * count_of c.args.inode.now = let t = c.loop-k-test.false in let u = c.loop-k.auto.k-end in let e = c.block_count-k-end.ensures.is in omega arith in
    counts-all _ c.args.inode.now c.args.counts.now c.loop-k.counts c.loop-k.k c.loop-k.invariant all
