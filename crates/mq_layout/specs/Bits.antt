-- Bitmaps and blocks of pointers.
use Rattle.std.specs.Prelude.{◌≡◌, ℕ, ◌*◌, ◌/◌, ◌%◌, ◌^◌, ◌<◌, ◌≤◌, List, slice_index}
use Rattle.mq_blocks.specs.Windows.{number_at}

-- a bit of a bitmap: bit `k mod 8` of byte `k / 8`, the least first
abbrev pub bit_of : List ℕ → ℕ → ℕ
bit_of block k = slice_index block (k / 8) / 2 ^ (k % 8) % 2

-- each bit from the first place on and below the second is 1
abbrev pub AreSet : List ℕ → (from end : ℕ) → Type 0
AreSet block from end = (k : ℕ) → from ≤ k → k < end → bit_of block k ≡ 1

-- of the bits from the first place on and below the second, the first that is 0
pub record IsFirstClear (block : List ℕ) (from end k : ℕ) : Type 0 where
  pub low : from ≤ k
  pub inside : k < end
  pub clear : bit_of block k ≡ 0
  pub before : AreSet block from k

-- a pointer of a block of pointers: four bytes, the least first
abbrev pub pointer_of : List ℕ → ℕ → ℕ
pointer_of block k = number_at 4 (4 * k) block
