use Rattle.mq_inodes.specs.Pages.{pages_of}
use Rattle.mq_inodes.proofs.FitsMarking.{clear-free}
use Rattle.mq_inodes.proofs.working.Working.free_inode.Goals as goal

pub returns-clause-ok : goal.returns-clause-ok
returns-clause-ok c v agrees =
    clear-free c.args.self.now.geometry (pages_of c.args.self.now) v c.inode_bitmap.result c.inodes.result c.in_ok-marks.marks.now c.first_clear.result agrees c.inode_bitmap.ensures c.in_ok-marks.ensures.ok c.inodes.ensures c.first_clear.ensures
