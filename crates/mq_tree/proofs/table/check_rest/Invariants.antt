use Rattle.mq_tree.specs.Tables.{IsTableBefore}
use Rattle.mq_tree.proofs.table.check_rest.Given as goal

abbrev pub invariant-loop-b : goal.invariant-loop-b
invariant-loop-b l = IsTableBefore l.fn.geometry l.blocks l.b
