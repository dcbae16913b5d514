use Rattle.std.proofs.Common.{arith}
use Rattle.mq_tree.proofs.DecodedMounting.{inode-form}
use Rattle.mq_tree.proofs.DecodedNaming.{dir-seen, names-least, names-more}
use Rattle.mq_tree.proofs.names.bad_name.Goals as goal

pub bad_name_in-requires-clause-form : goal.bad_name_in-requires-clause-form
bad_name_in-requires-clause-form c = inode-form c.args.geometry c.args.blocks.now c.args.inodes.now c.loop-i.i _ c.requires.inodes c.loop-i-test.true c.requires.table

pub bad_name_in-requires-clause-dir : goal.bad_name_in-requires-clause-dir
bad_name_in-requires-clause-dir c = dir-seen c.args.geometry c.args.blocks.now c.args.inodes.now c.loop-i.i _ c.requires.inodes c.loop-i-test.true c.requires.dirs

pub loop-i-preserved : goal.loop-i-preserved
loop-i-preserved c =
    names-more c.args.geometry c.args.blocks.now c.args.inodes.now c.loop-i.i _ c.loop-i.least c.bad_name_in.result c.lesser-least.result c.requires.inodes c.loop-i-test.true c.loop-i.invariant c.bad_name_in.ensures c.lesser-least.ensures

pub returns : goal.returns
returns c =
    names-least c.args.geometry c.args.blocks.now c.args.inodes.now c.loop-i.i c.loop-i.least c.requires.table c.requires.pointers c.requires.inodes (let t = c.loop-i-test.false in let u = c.loop-i.auto.i-end in omega arith) c.loop-i.invariant
