use Rattle.std.proofs.Common.{◌≡◌, ◌≤◌, ◌<◌, ℕ, true, false}
use Rattle.std.specs.Prelude.{slice_index_or}
use Rattle.mq_blocks.specs.Blocks.{block_at}
use Rattle.mq_blocks.specs.Geometry.{meta_of}
use Rattle.mq_tree.specs.Clean.{IsDirBlock}
use Rattle.mq_tree.proofs.DirMarks.{Marks}
use Rattle.mq_tree.proofs.dirs.bad_dir_block.Given as goal

abbrev pub invariant-loop-inode : goal.invariant-loop-inode
invariant-loop-inode l = Marks l.geometry l.blocks l.inode-index l.marks

abbrev pub invariant-loop-b : goal.invariant-loop-b
invariant-loop-b l = (c : ℕ) → meta_of l.fn.geometry ≤ c → c < l.b → slice_index_or l.marks c false ≡ true → IsDirBlock (block_at l.blocks c)
