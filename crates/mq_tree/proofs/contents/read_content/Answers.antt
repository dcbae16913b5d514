use Rattle.mq_tree.proofs.TreesKeeping.{content-dir, content-file, content-free}
use Rattle.mq_tree.proofs.contents.read_content.Goals as goal

pub returns-then-inode-eq-FILE-clause-ok : goal.returns-then-inode-eq-FILE-clause-ok
returns-then-inode-eq-FILE-clause-ok c kept_all = content-file c.args.blocks.now c.args.inode.now c.in_ok-bytes.bytes.items c.if-inode-eq-FILE.true c.in_ok-bytes.ensures

pub returns-then-inode-eq-DIRECTORY-clause-ok : goal.returns-then-inode-eq-DIRECTORY-clause-ok
returns-then-inode-eq-DIRECTORY-clause-ok c kept_all = content-dir c.args.blocks.now c.args.inode.now c.in_ok-names.names c.if-inode-eq-DIRECTORY.true c.in_ok-names.ensures.ok

pub returns-clause-ok : goal.returns-clause-ok
returns-clause-ok c kept_all = content-free c.args.blocks.now c.args.inode.now c.requires.form.kind c.if-inode-eq-FILE.false c.if-inode-eq-DIRECTORY.false
