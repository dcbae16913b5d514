use Rattle.mq_tree.proofs.FirstFindings.{blocks-refuse}
use Rattle.mq_tree.proofs.phases.check_blocks.Goals as goal

pub returns-clause-cause : goal.returns-clause-cause
returns-clause-cause c =
    blocks-refuse c.args.geometry c.args.blocks.now c.bad_pointer-pointer.result c.bad_dir_block-dir.result c.refuse_first.result c.bad_pointer-pointer.ensures c.bad_dir_block-dir.ensures.least c.refuse_first.ensures.first
