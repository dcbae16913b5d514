-- The words of a new desk.
use Rattle.std.specs.Prelude.{◌≡◌, ℕ, suc, ◌+◌, ◌-◌, ◌^◌, ◌<◌, List, length, slice_index}

-- every turn is taken, the counter and the base stand at the base, and the marks say that nothing is undone
pub record AreOpenWords (slots sides start : ℕ) (words : List ℕ) : Type 0 where
  pub wide : length words ≡ suc (suc (slots + sides))
  pub turns : (k : ℕ) → k < slots → slice_index words k ≡ 1
  pub counter : slice_index words slots ≡ start
  pub marks : (q : ℕ) → q < sides → slice_index words (suc (slots + q)) ≡ 2 ^ 64 - 1
  pub base : slice_index words (suc (slots + sides)) ≡ start
