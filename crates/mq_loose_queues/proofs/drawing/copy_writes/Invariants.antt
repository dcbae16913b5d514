use Rattle.std.proofs.Common.{◌≡◌, All, length, map, take}
use Rattle.mq_loose_queues.specs.Draws.{written_as}
use Rattle.mq_loose_queues.proofs.drawing.copy_writes.Given as goal

-- the first writes are copied
abbrev pub invariant-loop-block : goal.invariant-loop-block
invariant-loop-block l = record {
  copied : map written_as l.copies.items ≡ take l.block-index l.writes;
  whole : All (λ w. length w.content ≡ 4096) l.copies.items;
}
