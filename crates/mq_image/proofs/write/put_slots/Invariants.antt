use Rattle.std.proofs.Common.{◌≡◌, ◌++◌, take}
use Rattle.std.specs.List.{flat_map}
use Rattle.mq_nvme.specs.Dwords.{dword_bytes}
use Rattle.mq_image.proofs.write.put_slots.Given as goal

abbrev pub invariant-loop-entry : goal.invariant-loop-entry
invariant-loop-entry l = l.file.items ≡ l.fn.file.items ++ flat_map dword_bytes (take l.entry-index l.slots)
