use Rattle.std.proofs.Common.{◌≡◌, ◌+◌, ◌≤◌, ◌<◌, ℕ, false, true, get_or, vec_len, vec_capacity}
use Rattle.std.specs.Slots.{slots_items, slots_filled, slots_len}
use Rattle.mq_turns.specs.Closing.{AreSides}
use Rattle.mq_turns.proofs.close.unload_sides.Given as goal

abbrev pub invariant-loop-k : goal.invariant-loop-k
invariant-loop-k g l = record {
  same : (slots_items l.closed.slots ≡ slots_items l.initial.closed.slots) × (slots_len l.closed.slots ≡ slots_len l.initial.closed.slots) × (l.closed.words ≡ l.initial.closed.words);
  left : (j : ℕ) → l.pages + l.k ≤ j → j < slots_len l.initial.closed.slots → get_or (slots_filled l.closed.slots) j false ≡ true;
  gone : (j : ℕ) → j < l.pages + l.k → get_or (slots_filled l.closed.slots) j false ≡ false;
  room : (vec_len l.sides ≡ l.k) × (vec_capacity l.sides ≡ vec_capacity l.initial.sides);
  sides : AreSides l.pages (slots_items l.initial.closed.slots) l.sides.items;
}
