use Rattle.std.proofs.Common.{◌≡◌, ◌≤◌, ◌-◌}
use Rattle.std.specs.List.{count_by, range_with_len}
use Rattle.mq_blocks.specs.Geometry.{homes_of, meta_of}
use Rattle.mq_tree.specs.Laid.{is_marked}
use Rattle.mq_check.proofs.marks.marked_blocks.Given as goal

abbrev pub invariant-loop-b : goal.invariant-loop-b
invariant-loop-b l = record {
  low : meta_of l.geometry ≤ l.b;
  high : l.b ≤ homes_of l.geometry;
  count : l.count ≡ count_by (is_marked l.geometry l.blocks) (range_with_len (meta_of l.geometry) (l.b - meta_of l.geometry));
}
