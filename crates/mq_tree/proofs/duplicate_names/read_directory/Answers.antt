use Rattle.std.proofs.Common.{arith}
use Rattle.mq_tree.specs.Decoded.{entry_of}
use Rattle.mq_tree.proofs.DirectoriesTwins.{names-alike, names-once, scan-new, scan-skip, scan-twin, twin-refused}
use Rattle.mq_tree.proofs.duplicate_names.read_directory.Goals as goal
use Rattle.mq_tree.proofs.duplicate_names.read_directory.Goals.{in-Some+in_ok-add+else-not-branch, in-Some+in_ok-add+then-not-branch+in_ok-add-2, in_default}

pub loop-k-preserved : goal.loop-k-preserved
loop-k-preserved c = elim c.match-slot_at.branch [
  | in-Some+in_ok-add+then-not-branch+in_ok-add-2 w ↦ scan-twin (entry_of c.args.blocks.now c.args.inode.now) c.loop-k.k c.loop-k.names c.loop-k.twins w.add.new.self w.add-then-not-branch.new.self _ _ _ w.in_ok-add.field-0 c.loop-k.invariant w.in-Some.ensures w.in_ok-add.ensures.is_new w.if-not-branch.true w.in_ok-add.ensures.leads w.in_ok-add-2.ensures.leads w.names-is w.twins-is
  | in-Some+in_ok-add+else-not-branch w ↦ scan-new (entry_of c.args.blocks.now c.args.inode.now) c.loop-k.k c.loop-k.names c.loop-k.twins w.add.new.self _ _ _ w.in_ok-add.field-0 c.loop-k.invariant w.in-Some.ensures w.in_ok-add.ensures.is_new w.if-not-branch.false w.names-is w.twins-is
  | in_default w ↦ scan-skip (entry_of c.args.blocks.now c.args.inode.now) c.loop-k.k c.loop-k.names c.loop-k.twins _ _ c.loop-k.invariant w.in_default.ensures w.names-is w.twins-is
]

pub returns-in-Some-block_with_name-clause-cause : goal.returns-in-Some-block_with_name-clause-cause
returns-in-Some-block_with_name-clause-cause c =
    twin-refused c.args.blocks.now c.args.inode.now c.loop-k.k c.loop-k.names c.loop-k.twins c.block_with_name.result c.in-Some-block_with_name.b c.corrupt.result c.requires.kind
    (let t = c.loop-k-test.false in let u = c.loop-k.auto.k-end in let e = c.block_count-k-end.ensures.is in omega arith) c.loop-k.invariant c.block_with_name.ensures c.in-Some-block_with_name.is c.corrupt.ensures

pub returns-in-None-clause-ok : goal.returns-in-None-clause-ok
returns-in-None-clause-ok c =
    names-alike c.args.blocks.now c.args.inode.now c.loop-k.k c.loop-k.names c.loop-k.twins c.block_with_name.result c.requires.kind
    (let t = c.loop-k-test.false in let u = c.loop-k.auto.k-end in let e = c.block_count-k-end.ensures.is in omega arith) c.loop-k.invariant c.block_with_name.ensures c.in-None.is

pub returns-in-None-clause-once : goal.returns-in-None-clause-once
returns-in-None-clause-once c =
    names-once c.args.blocks.now c.args.inode.now c.loop-k.k c.loop-k.names c.loop-k.twins c.block_with_name.result c.requires.kind
    (let t = c.loop-k-test.false in let u = c.loop-k.auto.k-end in let e = c.block_count-k-end.ensures.is in omega arith) c.loop-k.invariant c.block_with_name.ensures c.in-None.is
