-- Dwords as bytes, the least significant byte first (NVM Express 1.4, "Byte, Word, and Dword
-- Relationships").
use Rattle.std.specs.Prelude.{◌≡◌, ◌<◌, ◌^◌, ℕ, List, length, slice_index}
use Rattle.std.specs.Int.{to_le_bytes, w32}
use Rattle.std.specs.List.{flat_map}

-- `count` dwords
pub record AreDwords (count : ℕ) (dwords : List ℕ) : Type 0 where
  pub long : length dwords ≡ count
  pub fit : (k : ℕ) → slice_index dwords k < 2 ^ 32

-- their bytes
unfoldable pub dword_bytes : List ℕ → List ℕ
dword_bytes dwords = flat_map (to_le_bytes w32) dwords
