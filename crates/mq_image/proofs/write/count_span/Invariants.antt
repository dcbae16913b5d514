use Rattle.std.proofs.Common.{◌≡◌, ◌≤◌, take}
use Rattle.mq_image.specs.File.{record_count}
use Rattle.mq_image.proofs.write.count_span.Given as goal

abbrev pub invariant-loop-block : goal.invariant-loop-block
invariant-loop-block l = (l.count ≡ record_count (take l.block-index l.blocks)) × (l.count ≤ l.block-index)
