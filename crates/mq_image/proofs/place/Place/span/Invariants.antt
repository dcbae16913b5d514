use Rattle.std.proofs.Common.{◌≡◌, length}
use Rattle.mq_image.specs.Places.{IsSpan}
use Rattle.mq_image.proofs.place.Place.span.Given as goal

abbrev pub invariant-loop-block : goal.invariant-loop-block
invariant-loop-block l = record {
  count : length l.blocks.items ≡ l._block;
  span : IsSpan l.file l.fn.self l.self l.blocks.items;
}
