use Rattle.std.proofs.Common.{◌≡◌, ◌-◌, ◌≤◌, length}
use Rattle.mq_blocks.specs.Geometry.{zone_size}
use Rattle.mq_inodes.proofs.PicksSearching.{picked}
use Rattle.mq_tree.specs.Laid.{ShowsMarks, zone_block, zone_marked}
use Rattle.mq_tree.specs.Volume.{Volume}
use Rattle.mq_inodes.proofs.space.push_free.Given as goal

abbrev pub invariant-loop-k : goal.invariant-loop-k
invariant-loop-k l = record {
  picks : (v : Volume) → ShowsMarks l.marks (zone_marked l.fn.geometry v l.fn.zone) → l.picks.items ≡ picked v l.fn.count l.fn.picks.items (zone_block l.fn.geometry l.fn.zone 0) l.from;
  few : length l.picks.items ≤ l.fn.count;
  inside : l.from ≤ zone_size l.fn.geometry;
}

abbrev pub decreases-loop-k : goal.decreases-loop-k
decreases-loop-k l = zone_size l.fn.geometry - l.from
