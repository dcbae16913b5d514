-- Records: a key with its value, and their bytes.
use Rattle.std.specs.Prelude.{◌≡◌, ◌≤◌, ℕ, ◌+◌, true, List, [], ◌∷◌, ◌++◌, length, Option, Some, None, if◌then◌else◌}
use Rattle.std.specs.Int.{to_le_bytes, w16}
use Rattle.std.specs.Str.{bytes_eq}
use Rattle.mq_kv_buckets.specs.Keys.{is_above, is_below, key_limit, value_limit}

pub record Record : Type 0 where
  pub key : List ℕ
  pub value : List ℕ

-- a key of 1 to 255 bytes and a value of at most 1,024
pub record IsRecord (r : Record) : Type 0 where
  pub some : 1 ≤ length r.key
  pub key_fits : length r.key ≤ key_limit
  pub value_fits : length r.value ≤ value_limit

-- the length of the key and that of the value, in two bytes each with the least one first; key; value
unfoldable pub record_bytes : Record → List ℕ
record_bytes r = to_le_bytes w16 (length r.key) ++ (to_le_bytes w16 (length r.value) ++ (r.key ++ r.value))

-- one record behind the other
unfoldable pub records_bytes : List Record → List ℕ
records_bytes [] = []
records_bytes (r ∷ rs) = record_bytes r ++ records_bytes rs

-- how many bytes a record has
abbrev pub size_of : Record → ℕ
size_of r = 4 + length r.key + length r.value

abbrev pub size_of_all : List Record → ℕ
size_of_all [] = 0
size_of_all (r ∷ rs) = size_of r + size_of_all rs

-- these are records, in strictly rising order of keys, the first of them above the given key
abbrev pub AreRising : List ℕ → List Record → Type 0
AreRising last [] = Unit {0}
AreRising last (r ∷ rs) = IsRecord r × (is_below last r.key ≡ true) × AreRising r.key rs

-- the value under a key
abbrev pub lookup : List Record → List ℕ → Option (List ℕ)
lookup [] key = None
lookup (r ∷ rs) key = if bytes_eq r.key key then Some r.value else lookup rs key

-- the records of lesser keys, and those of greater ones
abbrev pub below : List ℕ → List Record → List Record
below key [] = []
below key (r ∷ rs) = if is_below r.key key then r ∷ below key rs else below key rs

abbrev pub above : List ℕ → List Record → List Record
above key [] = []
above key (r ∷ rs) = if is_above r.key key then r ∷ above key rs else above key rs

-- the records with this value under the key, in place of an earlier one where there is one
abbrev pub put_in : List ℕ → List ℕ → List Record → List Record
put_in key value rs = below key rs ++ record { key = key; value = value } ∷ above key rs

-- the records without that of the key
abbrev pub without : List ℕ → List Record → List Record
without key rs = below key rs ++ above key rs
