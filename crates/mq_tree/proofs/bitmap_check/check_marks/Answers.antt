use Rattle.std.proofs.Common.{arith, below_more, length, subst, sym, ap, ◌∙◌}
use Rattle.mq_blocks.specs.Blocks.{block_at}
use Rattle.mq_blocks.specs.Geometry.{queues_of, zone_size}
use Rattle.mq_layout.specs.Places.{zone_bitmap}
use Rattle.mq_tree.specs.Decoded.{volume_in}
use Rattle.mq_tree.specs.Laid.{zone_block}
use Rattle.mq_tree.specs.Marks.{AreRight}
use Rattle.mq_tree.specs.Phases.{RefusesIn}
use Rattle.mq_tree.specs.Volume.{is_taken}
use Rattle.mq_tree.proofs.DecodedMounting.{length-inodes}
use Rattle.mq_tree.proofs.MarksFirst.{AreZones, inodes-refused, inodes-right, zone-refused, zone-right}
use Rattle.mq_tree.proofs.Parts.{marks-all}
use Rattle.mq_tree.proofs.bitmap_check.check_marks.Goals as goal

pub returns-in-Some-clause-cause : goal.returns-in-Some-clause-cause
returns-in-Some-clause-cause c =
    subst (λ r. RefusesIn c.args.geometry c.args.blocks.now 5 r) (sym c.corrupt.ensures)
    (zone-refused c.args.geometry c.args.blocks.now c.args.used.now c.loop-zone.zone c.b.inside.0 c.stored_block.result.now c.in-Some.cause c.requires.pointers c.requires.used (let t = c.loop-zone-test.true in let e = c.queues-zone-end.ensures in omega arith) (c.b.view_is ∙ c.zone_bitmap.ensures) c.stored_block.ensures c.loop-zone.invariant c.in-Some.ensures)

pub loop-zone-preserved : goal.loop-zone-preserved
loop-zone-preserved c =
    below_more (λ z. AreRight (block_at c.args.blocks.now (zone_bitmap z)) (λ k. is_taken (volume_in c.args.geometry c.args.blocks.now) (zone_block c.args.geometry z k)) (zone_size c.args.geometry)) c.loop-zone.zone c.loop-zone.invariant
    (zone-right c.args.geometry c.args.blocks.now c.args.used.now c.loop-zone.zone c.b.inside.0 c.stored_block.result.now c.requires.used (c.b.view_is ∙ c.zone_bitmap.ensures) c.stored_block.ensures c.in_default.ensures)

pub inode_cause-requires : goal.inode_cause-requires
inode_cause-requires c = let e = ap length c.requires.inodes in let n = length-inodes c.args.geometry c.args.blocks.now in omega arith

pub returns-in-Some-inode_cause-clause-cause : goal.returns-in-Some-inode_cause-clause-cause
returns-in-Some-inode_cause-clause-cause c =
    let zones : AreZones c.args.geometry c.args.blocks.now (queues_of c.args.geometry) = λ z low. c.loop-zone.invariant z (let e = c.queues-zone-end.ensures in let t = c.loop-zone-test.false in omega arith) in
    subst (λ r. RefusesIn c.args.geometry c.args.blocks.now 5 r) (sym c.corrupt-in-Some-inode_cause.ensures)
    (inodes-refused c.args.geometry c.args.blocks.now c.args.inodes.now c.b-2.inside.0 c.stored_block-2.result.now c.in-Some-inode_cause.cause c.requires.table c.requires.inodes (c.b-2.view_is ∙ c.inode_bitmap.ensures) c.stored_block-2.ensures zones c.in-Some-inode_cause.ensures)

pub returns-in-None-clause-ok : goal.returns-in-None-clause-ok
returns-in-None-clause-ok c =
    let zones : AreZones c.args.geometry c.args.blocks.now (queues_of c.args.geometry) = λ z low. c.loop-zone.invariant z (let e = c.queues-zone-end.ensures in let t = c.loop-zone-test.false in omega arith) in
    marks-all c.args.geometry c.args.blocks.now c.requires.table zones (inodes-right c.args.geometry c.args.blocks.now c.args.inodes.now c.b-2.inside.0 c.stored_block-2.result.now c.requires.table c.requires.inodes (c.b-2.view_is ∙ c.inode_bitmap.ensures) c.stored_block-2.ensures c.in-None.ensures)
