use Rattle.std.proofs.Common.{arith, subst, sym, ◌+◌}
use Rattle.mq_tree.specs.Parts.{AddsMarks}
use Rattle.mq_tree.proofs.DirMarks.{adds-more, adds-none, adds-nothing, adds-other}
use Rattle.mq_tree.proofs.dirs.mark_blocks.Goals as goal
use Rattle.mq_tree.proofs.dirs.mark_blocks.Goals.{in-Some, in_default}

pub returns-then-inode-ne-DIRECTORY : goal.returns-then-inode-ne-DIRECTORY
returns-then-inode-ne-DIRECTORY c = adds-other c.args.geometry c.args.blocks.now c.args.inode.now _ c.args.marks.now c.if-inode-ne-DIRECTORY.true

pub loop-place-init : goal.loop-place-init
loop-place-init c = adds-none c.args.geometry c.args.blocks.now c.args.inode.now c.args.marks.now

pub loop-place-preserved : goal.loop-place-preserved
loop-place-preserved c =
    let Adds = AddsMarks c.args.geometry c.args.blocks.now c.args.inode.now (c.loop-place.place + 1) c.args.marks.now in
    elim c.match-block_in_zone.branch [
      | in-Some w ↦
          let there = w.in-Some.ensures in
          let inside = there.inside.1 in
          let size = c.loop-place.auto.marks in
          let most = c.args.geometry.homes_high in
          subst Adds (sym w.marks-is) (adds-more c.args.geometry c.args.blocks.now c.args.inode.now c.loop-place.place w.in-Some.b c.args.marks.now c.loop-place.marks c.if-inode-ne-DIRECTORY.false (omega arith) there c.loop-place.invariant)
      | in_default w ↦ subst Adds (sym w.marks-is) (adds-nothing c.args.geometry c.args.blocks.now c.args.inode.now c.loop-place.place c.args.marks.now c.loop-place.marks w.in_default.ensures c.loop-place.invariant)
    ]
