use Rattle.std.proofs.Common.{◌≡◌, length}
use Rattle.std.specs.Vec.Iter.{into_iter_items}
use Rattle.mq_audit.specs.Traces.{AreBelow, placed}
use Rattle.mq_audit.proofs.trace.place.Given as goal

-- what is left is placed where all is
abbrev pub invariant-loop-block : goal.invariant-loop-block
invariant-loop-block l = record {
  placed_is : placed (into_iter_items l.block-iterator) l.blocks.items ≡ placed l.fn.sets l.fn.blocks.items;
  below : AreBelow (length l.blocks.items) (into_iter_items l.block-iterator);
}
