use Rattle.std.proofs.Common.{◌≡◌, ◌*◌, length}
use Rattle.std.specs.List.{All, flat_map}
use Rattle.mq_blocks.specs.Windows.{window}
use Rattle.mq_nvme.specs.Dwords.{AreDwords, dword_bytes}
use Rattle.mq_image.proofs.ring.read_slots.Given as goal

abbrev pub invariant-loop-slot : goal.invariant-loop-slot
invariant-loop-slot l = record {
  count : length l.slots.items ≡ l.slot;
  dwords : All (λ e. AreDwords 16 e) l.slots.items;
  bytes : flat_map dword_bytes l.slots.items ≡ window l.file l.at (64 * l.slot);
}
