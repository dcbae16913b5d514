use Rattle.std.proofs.Common.{sym, ◌∙◌}
use Rattle.mq_inodes.proofs.Walks.{found-low, not-entered}
use Rattle.mq_inodes.proofs.working.Working.enter.Goals as goal

pub inode-requires-clause-low : goal.inode-requires-clause-low
inode-requires-clause-low c =
    let p = c.requires.possible in
    found-low c.args.self.now.geometry p.0 c.args.d c.args.name.now c.in-Some.i p.1.sound (sym (c.in_ok-i.ensures.ok p.0 p.1) ∙ c.in-Some.is)

pub returns-else-inode-eq-DIRECTORY-clause-ok : goal.returns-else-inode-eq-DIRECTORY-clause-ok
returns-else-inode-eq-DIRECTORY-clause-ok c v agrees =
    not-entered c.args.self.now.geometry v c.args.d c.args.name.now c.in-Some.i c.in_ok-inode.inode agrees.sound (sym (c.in_ok-i.ensures.ok v agrees) ∙ c.in-Some.is) (c.in_ok-inode.ensures.ok v agrees) c.if-inode-eq-DIRECTORY.false
