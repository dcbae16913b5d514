use Rattle.std.proofs.Common.{◌≡◌, ◌+◌, ◌++◌, take, length}
use Rattle.mq_image.specs.File.{zones, records}
use Rattle.mq_image.proofs.write.put_zones.Given as goal

abbrev pub invariant-loop-port : goal.invariant-loop-port
invariant-loop-port l =
    (l.lba ≡ l.first + length (zones l.geometry (take l.port-index l.queues))) × (l.file.items ≡ l.fn.file.items ++ records l.first (zones l.geometry (take l.port-index l.queues)))
