use Rattle.std.proofs.Common.{◌≡◌, drop}
use Rattle.std.specs.List.{list_all}
use Rattle.mq_layout.specs.Names.{is_name}
use Rattle.mq_exec.proofs.named_inode.is_good_path.Given as goal

abbrev pub invariant-loop-name : goal.invariant-loop-name
invariant-loop-name l = list_all is_name (drop l.name-index l.path) ≡ list_all is_name l.path
