use Rattle.std.proofs.Common.{◌≡◌, ◌≤◌, ◌<◌, ℕ}
use Rattle.mq_blocks.specs.Blocks.{block_at}
use Rattle.mq_layout.specs.Inodes.{ShowsInode}
use Rattle.mq_layout.specs.Places.{inode_block, inode_place}
use Rattle.mq_tree.specs.Decoded.{table_of, the_inode}
use Rattle.mq_tree.proofs.table.read_inodes.Given as goal

abbrev pub invariant-loop-i : goal.invariant-loop-i
invariant-loop-i l = record {
  found : l.found.items ≡ table_of l.i (the_inode l.geometry l.blocks);
  shown : (k : ℕ) → l.start ≤ k → k < l.i → ShowsInode (block_at l.blocks (inode_block l.geometry k)) (inode_place k) (the_inode l.geometry l.blocks k);
}
