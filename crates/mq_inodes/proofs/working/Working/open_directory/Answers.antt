use Rattle.mq_inodes.proofs.OpenedLookups.{opened-dir}
use Rattle.mq_inodes.proofs.working.Working.open_directory.Goals as goal

pub returns-clause-opened : goal.returns-clause-opened
returns-clause-opened c v agrees = opened-dir c.args.self.now.geometry v _ agrees.sound (c.requires.dir v agrees) (c.in_ok-inode.ensures.ok v agrees) (c.in_ok-blocks.ensures.blocks v agrees)
