-- Where the record of a key stands in a bucket, and edits in place.
use Rattle.std.specs.Prelude.{◌≡◌, ℕ, ◌+◌, ◌-◌, List, ◌++◌, length, take, drop, Option, Some, None}
use Rattle.mq_blocks.specs.Windows.{window}
use Rattle.mq_kv_buckets.specs.Buckets.{zero_bytes}
use Rattle.mq_kv_buckets.specs.Records.{Record, below, lookup, size_of_all}

-- how many bytes the record of a key with this value has, and none where there is no value
abbrev pub size_with : List ℕ → Option (List ℕ) → ℕ
size_with key None = 0
size_with key (Some value) = 4 + length key + length value

-- The record of the key begins at `at`, or would begin there, and has `size` bytes, or none.
pub record IsSpot (rs : List Record) (key : List ℕ) (at size : ℕ) : Type 0 where
  pub at_is : at ≡ size_of_all (below key rs)
  pub size_is : size ≡ size_with key (lookup rs key)

-- Some of the records end at `at`, where the others begin.
pub record IsBetween (rs : List Record) (at : ℕ) : Type 0 where
  pub before : List Record
  pub behind : List Record
  pub split : rs ≡ before ++ behind
  pub at_is : at ≡ size_of_all before

-- The bytes up to `at` stayed, and `room` bytes behind them are free; then come those that stood from
-- `at + size` to `end`, and then zeros.
pub record IsMoved (old new : List ℕ) (at size room end : ℕ) : Type 0 where
  pub whole : length new ≡ length old
  pub before : take at new ≡ take at old
  pub behind : drop (at + room) new
      ≡ window old (at + size) (end - (at + size)) ++ zero_bytes (length old - (end - size + room))
