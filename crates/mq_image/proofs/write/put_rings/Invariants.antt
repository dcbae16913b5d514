use Rattle.std.proofs.Common.{◌≡◌, ◌++◌, take}
use Rattle.std.specs.List.{flat_map}
use Rattle.mq_image.specs.File.{ring_bytes}
use Rattle.mq_image.proofs.write.put_rings.Given as goal

abbrev pub invariant-loop-port : goal.invariant-loop-port
invariant-loop-port l = l.file.items ≡ l.fn.file.items ++ flat_map ring_bytes (take l.port-index l.queues)
