use Rattle.std.proofs.Common.{◌≡◌, ◌++◌, take}
use Rattle.std.specs.List.{flat_map}
use Rattle.mq_image_ops.specs.Dump.{descriptor_line}
use Rattle.mq_image_ops.proofs.dump.put_chain.Given as goal

abbrev pub invariant-loop-descriptor : goal.invariant-loop-descriptor
invariant-loop-descriptor l = l.text.items ≡ l.fn.text.items ++ flat_map descriptor_line (take l.descriptor-index l.chain)
