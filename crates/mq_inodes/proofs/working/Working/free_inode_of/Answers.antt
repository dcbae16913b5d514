use Rattle.std.proofs.lemmas.Result.{on_ok_weaker}
use Rattle.mq_inodes.specs.Pages.{pages_of}
use Rattle.mq_inodes.specs.Released.{gone_from}
use Rattle.mq_inodes.proofs.EditsBecoming.{over-then}
use Rattle.mq_inodes.proofs.ReleasedInodes.{becomes-freed, inside-along, marks-held, table-marked}
use Rattle.mq_inodes.proofs.EditsLinking.{on_ok-both}
use Rattle.mq_inodes.proofs.ChangesGone.{gone-releasable}
use Rattle.mq_inodes.proofs.working.Working.free_inode_of.Goals as goal

pub release_from-requires-clause-pointers : goal.release_from-requires-clause-pointers
release_from-requires-clause-pointers c = λ few many. c.requires.pointers many

pub mark_inode-requires-clause-low : goal.mark_inode-requires-clause-low
mark_inode-requires-clause-low c = inside-along c.args.self.now c.release_from.new.self c.args.o.now.number c.in_ok-release_from.ensures.over c.requires.possible.2.low

pub mark_inode-requires-clause-held : goal.mark_inode-requires-clause-held
mark_inode-requires-clause-held c = marks-held c.args.self.now c.release_from.new.self (gone_from c.args.o.now 0) c.in_ok-release_from.ensures c.requires.marks

pub put_inode-requires-clause-low : goal.put_inode-requires-clause-low
put_inode-requires-clause-low c =
    inside-along c.release_from.new.self c.mark_inode.new.self c.args.o.now.number c.in_ok-mark_inode.ensures.over (inside-along c.args.self.now c.release_from.new.self c.args.o.now.number c.in_ok-release_from.ensures.over c.requires.possible.2.low)

pub put_inode-requires-clause-held : goal.put_inode-requires-clause-held
put_inode-requires-clause-held c =
    table-marked c.args.self.now c.release_from.new.self c.mark_inode.new.self c.args.o.now.number (gone_from c.args.o.now 0) c.requires.possible.2.low c.in_ok-release_from.ensures c.in_ok-mark_inode.ensures.over c.in_ok-mark_inode.ensures.marked c.requires.table

pub returns-clause-over : goal.returns-clause-over
returns-clause-over c =
    on_ok_weaker c.put_inode.result (over-then c.args.self.now c.mark_inode.new.self c.put_inode.new.self (over-then c.args.self.now c.release_from.new.self c.mark_inode.new.self c.in_ok-release_from.ensures.over c.in_ok-mark_inode.ensures.over)) c.put_inode.ensures.over

pub returns-clause-freed : goal.returns-clause-freed
returns-clause-freed c =
    let old = c.args.self.now in
    let o = c.args.o.now in
    on_ok-both c.put_inode.result c.put_inode.ensures.kinds c.put_inode.ensures.put (λ keeps put v carries opened. becomes-freed v o old c.release_from.new.self c.mark_inode.new.self c.put_inode.new.self carries opened (gone-releasable old.geometry (pages_of old) o 0 c.requires.blocks (λ few many. c.requires.pointers many)) c.requires.table c.requires.marks
    c.in_ok-release_from.ensures c.in_ok-mark_inode.ensures.over c.in_ok-mark_inode.ensures.kinds c.in_ok-mark_inode.ensures.marked keeps put)
