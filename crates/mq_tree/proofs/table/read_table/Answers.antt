use Rattle.mq_tree.proofs.DecodedMounting.{inodes-all}
use Rattle.mq_tree.proofs.TablesFirst.{before-all}
use Rattle.mq_tree.proofs.table.read_table.Goals as goal

pub returns-clause-ok : goal.returns-clause-ok
returns-clause-ok c = inodes-all c.args.geometry c.args.blocks.now c.inodes-count.result _ c.in_ok-read_inodes-2.ensures.found c.inodes-count.ensures

pub returns-clause-clean : goal.returns-clause-clean
returns-clause-clean c = before-all c.args.geometry c.args.blocks.now c.in_ok-check_root.ensures.ok c.in_ok-check_rest.ensures.ok
