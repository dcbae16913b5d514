-- Parts of a block, and the numbers in them.
use Rattle.std.specs.Prelude.{◌≡◌, ℕ, zero, suc, ◌+◌, List, [], ◌∷◌, ◌++◌, length, take, drop}
use Rattle.byteorder.specs.Endian.{little_number}

-- the `count` bytes from `from` on
abbrev pub window : List ℕ → ℕ → ℕ → List ℕ
window block from count = take count (drop from block)

-- these bytes stand in the block from `from` on
abbrev pub Shows : List ℕ → ℕ → List ℕ → Type 0
Shows block from bytes = window block from (length bytes) ≡ bytes

-- the block where these bytes were written from `from` on, and all others are as they were
unfoldable pub written : List ℕ → ℕ → List ℕ → List ℕ
written block from bytes = take from block ++ (bytes ++ drop (from + length bytes) block)

-- the number in the `size` bytes from `from` on, the least byte first
unfoldable pub number_at : (size from : ℕ) → List ℕ → ℕ
number_at size from block = little_number size (drop from block)

-- the first numbers of four bytes each
unfoldable pub numbers : ℕ → List ℕ → List ℕ
numbers zero bytes = []
numbers (suc count) bytes = number_at 4 0 bytes ∷ numbers count (drop 4 bytes)
