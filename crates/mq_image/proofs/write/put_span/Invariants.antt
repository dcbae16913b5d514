use Rattle.std.proofs.Common.{◌≡◌, ◌++◌, take}
use Rattle.mq_image.specs.File.{records}
use Rattle.mq_image.proofs.write.put_span.Given as goal

abbrev pub invariant-loop-k : goal.invariant-loop-k
invariant-loop-k l = l.file.items ≡ l.fn.file.items ++ records l.lba (take l.k l.blocks)
