use Rattle.std.proofs.Common.{◌≡◌, ◌≤◌, take, length}
use Rattle.mq_image.specs.File.{all_blocks, record_count}
use Rattle.mq_image.proofs.write.count_ports.Given as goal

abbrev pub invariant-loop-port : goal.invariant-loop-port
invariant-loop-port l = (l.count ≡ record_count (all_blocks (take l.port-index l.ports))) × (l.count ≤ length (all_blocks (take l.port-index l.ports)))
