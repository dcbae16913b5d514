use Rattle.mq_layout.specs.Places.{zone_bitmap}
use Rattle.mq_tree.specs.Tables.{IsTableBefore}
use Rattle.mq_tree.proofs.table.check_zone_bits.Given as goal

abbrev pub invariant-loop-zone : goal.invariant-loop-zone
invariant-loop-zone l = IsTableBefore l.geometry l.blocks (zone_bitmap l.zone)
