use Rattle.std.proofs.Common.{arith, ap, sym, ◌∙◌, length}
use Rattle.mq_layout.specs.declared.inode.Inode.{Inode}
use Rattle.mq_tree.specs.Decoded.{the_inode}
use Rattle.mq_tree.proofs.Decoded.{length-table}
use Rattle.mq_tree.proofs.TablesFirst.{root-among, root-first}
use Rattle.mq_tree.proofs.table.check_root.Goals as goal

pub bounds-inodes-0 : goal.bounds-inodes-0
bounds-inodes-0 c = let e = ap length c.requires.inodes in let l = length-table 32 (the_inode c.args.geometry c.args.blocks.now) in omega arith

pub returns-then-inodes-eq-DIRECTORY-clause-ok : goal.returns-then-inodes-eq-DIRECTORY-clause-ok
returns-then-inodes-eq-DIRECTORY-clause-ok c = sym (ap (λ (n : Inode). n.kind) (root-among c.args.geometry c.args.blocks.now 32 c.args.inodes.now _ c.requires.inodes (omega arith))) ∙ c.if-inodes-eq-DIRECTORY.true

pub returns-clause-cause : goal.returns-clause-cause
returns-clause-cause c =
    root-first c.args.geometry c.args.blocks.now c.corrupt.inside.0 _ c.requires.before
    (record { at = c.corrupt.view_is ∙ c.inode_block.ensures.is; not_dir = λ two. c.if-inodes-eq-DIRECTORY.false (ap (λ (n : Inode). n.kind) (root-among c.args.geometry c.args.blocks.now 32 c.args.inodes.now _ c.requires.inodes (omega arith)) ∙ two) }) c.corrupt-2.ensures
