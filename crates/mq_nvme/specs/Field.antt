-- Fields of entries: some bits of one dword, from a low bit on.
use Rattle.std.specs.Prelude.{◌<◌, ◌≤◌, ◌≢◌, ◌⊎◌, ◌≡◌, ℕ, ◌+◌, ◌*◌, ◌/◌, ◌%◌, ◌^◌, List, slice_index, slice_set}
use Rattle.std.specs.Int.{bit_at}

-- where a field stands: its dword, its low bit there and its width in bits
pub record Place : Type 0 where
  pub dword : ℕ
  pub low : ℕ
  pub width : ℕ

abbrev pub place : ℕ → ℕ → ℕ → Place
place dword low width = record { dword = dword; low = low; width = width }

-- the field lies within the 32 bits of one of `count` dwords
pub record IsWithin (count : ℕ) (p : Place) : Type 0 where
  pub dword : p.dword < count
  pub some : 1 ≤ p.width
  pub bits : p.low + p.width ≤ 32

-- these bits of a dword
unfoldable pub bits_of : ℕ → ℕ → ℕ → ℕ
bits_of low width n = n / 2 ^ low % 2 ^ width

-- the dword with these bits replaced: its bits above them, the value, and its bits below them
unfoldable pub with_bits : ℕ → ℕ → ℕ → ℕ → ℕ
with_bits low width value n = n / 2 ^ (low + width) * 2 ^ (low + width) + (value * 2 ^ low + n % 2 ^ low)

-- what a field of an entry holds
unfoldable pub get_field : Place → List ℕ → ℕ
get_field p e = bits_of p.low p.width (slice_index e p.dword)

-- the entry with another value in the field
unfoldable pub set_field : Place → ℕ → List ℕ → List ℕ
set_field p value e = slice_set e p.dword (with_bits p.low p.width value (slice_index e p.dword))

-- the bit of the dword is none of the field's
abbrev pub IsOutside : Place → ℕ → ℕ → Type 0
IsOutside p dword bit = (dword ≢ p.dword) ⊎ ((bit < p.low) ⊎ (p.low + p.width ≤ bit))

-- two entries agree in each bit that is none of the field's
abbrev pub AreSameOutside : Place → List ℕ → List ℕ → Type 0
AreSameOutside p e d =
    (dword bit : ℕ) → IsOutside p dword bit
    → bit_at (slice_index e dword) bit ≡ bit_at (slice_index d dword) bit
