use Rattle.std.proofs.Common.{refl, subst, sym}
use Rattle.mq_inodes.specs.Changes.{IsInodePut}
use Rattle.mq_inodes.specs.Pages.{pages_of}
use Rattle.mq_inodes.proofs.Counted.{links-counted, relinked-form}
use Rattle.mq_inodes.proofs.EditsLinking.{on_ok-both}
use Rattle.mq_inodes.proofs.working.Working.put_links.Goals as goal
use Rattle.mq_layout.specs.Inodes.{IsInode}

pub put_inode-requires-clause-form : goal.put_inode-requires-clause-form
put_inode-requires-clause-form c =
    let p = c.requires.possible in
    subst (λ n. IsInode n) (sym c.with_links.ensures) (relinked-form c.args.self.now.geometry p.0 c.args.i c.args.links c.args.inode.now p.1.uses p.1.count p.2)

pub returns-clause-counted : goal.returns-clause-counted
returns-clause-counted c = on_ok-both c.put_inode.result c.put_inode.ensures.kinds c.put_inode.ensures.put (λ kinds put v carries may.
    let g = c.args.self.now.geometry in
    links-counted g v c.args.i c.args.links c.args.inode.now c.args.self.now c.put_inode.new.self carries may refl kinds (subst (λ n. IsInodePut g (pages_of c.args.self.now) (pages_of c.put_inode.new.self) c.args.i n) c.with_links.ensures put))
