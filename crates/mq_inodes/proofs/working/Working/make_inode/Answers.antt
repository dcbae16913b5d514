use Rattle.std.proofs.Common.{refl, subst, sym}
use Rattle.mq_inodes.proofs.BareEmptyInodes.{empty-form, inode-made}
use Rattle.mq_inodes.proofs.EditsLinking.{on_ok-both}
use Rattle.mq_inodes.proofs.working.Working.make_inode.Goals as goal
use Rattle.mq_layout.specs.Inodes.{IsInode}

pub put_inode-requires-clause-form : goal.put_inode-requires-clause-form
put_inode-requires-clause-form c = subst (λ n. IsInode n) (sym c.empty_inode.ensures) (empty-form c.args.is_directory)

pub returns-clause-made : goal.returns-clause-made
returns-clause-made c = on_ok-both c.put_inode.result c.put_inode.ensures.kinds c.put_inode.ensures.put (λ kinds put v carries good is.
    inode-made c.args.self.now.geometry v c.args.i c.args.is_directory c.empty_inode.result c.args.self.now c.mark_inode.new.self c.put_inode.new.self carries c.requires.low good is refl c.in_ok-mark_inode.ensures.over.view.geometry
    c.in_ok-mark_inode.ensures.kinds kinds c.in_ok-mark_inode.ensures.marked c.empty_inode.ensures put)
