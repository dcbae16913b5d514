use Rattle.std.proofs.Common.{Bool, cond, sym, ap}
use Rattle.mq_inodes.proofs.BareEmptyInodes.{empty-is}
use Rattle.mq_inodes.proofs.bare.empty_inode.Goals as goal

pub returns-then-is_directory : goal.returns-then-is_directory
returns-then-is_directory c = empty-is 2 c.args.is_directory (sym (ap (λ (t : Bool). cond t 2 1) c.if-is_directory.true))

pub returns-else-is_directory : goal.returns-else-is_directory
returns-else-is_directory c = empty-is 1 c.args.is_directory (sym (ap (λ (t : Bool). cond t 2 1) c.if-is_directory.false))
