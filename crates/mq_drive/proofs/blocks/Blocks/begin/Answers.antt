use Rattle.mq_drive.proofs.Doubts.{doubt_begin}
use Rattle.mq_drive.proofs.blocks.Blocks.begin.Goals as goal

pub invariant_of-self-clause-doubtful : goal.invariant_of-self-clause-doubtful
invariant_of-self-clause-doubtful c =
    doubt_begin c.args.self.now.doubt c.args.self.now.certain.items c.put_flag.new.flags.items c.args.k c.put_flag.ensures c.args.self.now.doubtful
