use Rattle.std.proofs.Common.{◌≡◌, ◌++◌, take, length}
use Rattle.mq_image.specs.File.{areas, records}
use Rattle.mq_image.proofs.write.put_areas.Given as goal

abbrev pub invariant-loop-port : goal.invariant-loop-port
invariant-loop-port l =
    (l.lba ≡ length (areas l.geometry (take l.port-index l.queues))) × (l.file.items ≡ l.fn.file.items ++ records 0 (areas l.geometry (take l.port-index l.queues)))
