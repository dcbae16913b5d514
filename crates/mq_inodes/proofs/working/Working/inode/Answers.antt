use Rattle.std.proofs.Common.{◌∙◌, sym}
use Rattle.mq_inodes.specs.Pages.{pages_of}
use Rattle.mq_inodes.proofs.FitsShowing.{inode-shown}
use Rattle.mq_inodes.proofs.working.Working.inode.Goals as goal

pub unreachable-requires : goal.unreachable-requires
unreachable-requires c =
    let p = c.requires.possible in
    let e = c.read_inode.ensures.complete _ (inode-shown c.args.self.now.geometry (pages_of c.args.self.now) p.0 c.args.i c.inode_block.result c.inode_place.result c.in_ok-block.block.now p.1 c.requires.low c.inode_block.ensures.is c.inode_place.ensures.is c.in_ok-block.ensures.ok) in
    let f = sym c.in-Err.is ∙ e in absurd (cc)

pub returns-clause-ok : goal.returns-clause-ok
returns-clause-ok c v agrees =
    let e = c.read_inode.ensures.complete _ (inode-shown c.args.self.now.geometry (pages_of c.args.self.now) v c.args.i c.inode_block.result c.inode_place.result c.in_ok-block.block.now agrees c.requires.low c.inode_block.ensures.is c.inode_place.ensures.is c.in_ok-block.ensures.ok) in
    let f = sym c.in-Ok.is ∙ e in (cc)
