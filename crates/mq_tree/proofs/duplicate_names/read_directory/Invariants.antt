use Rattle.mq_tree.specs.Decoded.{entry_of}
use Rattle.mq_tree.proofs.DirectoriesTwins.{Scanned}
use Rattle.mq_tree.proofs.duplicate_names.read_directory.Given as goal

abbrev pub invariant-loop-k : goal.invariant-loop-k
invariant-loop-k l = Scanned (entry_of l.blocks l.inode) l.k l.names l.twins
