use Rattle.std.proofs.Common.{◌≡◌, drop}
use Rattle.mq_tree.specs.Requests.{is_below}
use Rattle.mq_exec.proofs.rename.is_below.Given as goal

abbrev pub invariant-loop-k : goal.invariant-loop-k
invariant-loop-k l = is_below (drop l.k l.path) (drop l.k l.below) ≡ is_below l.path l.below
