use Rattle.std.proofs.Common.{◌≡◌, ◌≤◌, ◌<◌, ℕ, false, true, get_or, vec_len, vec_capacity}
use Rattle.std.specs.Slots.{slots_items, slots_filled, slots_len}
use Rattle.mq_turns.specs.Closing.{ArePages}
use Rattle.mq_turns.proofs.close.unload_pages.Given as goal

abbrev pub invariant-loop-k : goal.invariant-loop-k
invariant-loop-k g l = record {
  same : (slots_items l.closed.slots ≡ slots_items l.initial.closed.slots) × (slots_len l.closed.slots ≡ slots_len l.initial.closed.slots) × (l.closed.words ≡ l.initial.closed.words);
  left : (j : ℕ) → l.k ≤ j → j < slots_len l.initial.closed.slots → get_or (slots_filled l.closed.slots) j false ≡ true;
  gone : (j : ℕ) → j < l.k → get_or (slots_filled l.closed.slots) j false ≡ false;
  room : (vec_len l.pages ≡ l.k) × (vec_capacity l.pages ≡ vec_capacity l.initial.pages);
  pages : ArePages (slots_items l.initial.closed.slots) l.pages.items;
}
