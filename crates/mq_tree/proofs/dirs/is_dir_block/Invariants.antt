use Rattle.std.proofs.Common.{◌≡◌, ◌≤◌, ◌<◌, ℕ}
use Rattle.std.specs.Prelude.{slice_index}
use Rattle.mq_layout.specs.Slots.{ShowsSlot}
use Rattle.mq_tree.specs.Decoded.{slot_of}
use Rattle.mq_tree.proofs.dirs.is_dir_block.Given as goal

abbrev pub invariant-loop-at : goal.invariant-loop-at
invariant-loop-at l = (j : ℕ) → j < l.at → ShowsSlot l.block j (slot_of l.block j)

abbrev pub invariant-loop-k : goal.invariant-loop-k
invariant-loop-k l = (j : ℕ) → 4080 ≤ j → j < l.k → slice_index l.bytes j ≡ 0
