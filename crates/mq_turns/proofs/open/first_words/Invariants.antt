use Rattle.std.proofs.Common.{◌≡◌, ℕ, ◌+◌, ◌-◌, ◌^◌, ◌<◌, ◌≤◌, length, get_or}
use Rattle.mq_turns.proofs.open.first_words.Given as goal

abbrev pub invariant-loop-slot : goal.invariant-loop-slot
invariant-loop-slot l = record {
  wide : length l.words.items ≡ l.slots + l.sides + 2;
  turns : (k : ℕ) → k < l.slot → get_or l.words.items k 0 ≡ 1;
  marks : (k : ℕ) → l.slots ≤ k → k < l.slots + l.sides + 2 → get_or l.words.items k 0 ≡ 2 ^ 64 - 1;
}
