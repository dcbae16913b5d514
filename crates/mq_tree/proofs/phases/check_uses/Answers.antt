use Rattle.mq_tree.proofs.FirstFindings.{uses-refuse}
use Rattle.mq_tree.proofs.phases.check_uses.Goals as goal

pub returns-clause-cause : goal.returns-clause-cause
returns-clause-cause c =
    uses-refuse c.args.geometry c.args.blocks.now c.args.twice c.shared_directory-directory.result c.bad_count-count.result c.lesser-shared.result c.refuse_first.result c.requires.twice c.shared_directory-directory.ensures c.bad_count-count.ensures c.lesser-shared.ensures c.refuse_first.ensures.first
