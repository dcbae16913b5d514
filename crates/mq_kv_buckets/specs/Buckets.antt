-- Buckets: the bytes of a block that holds records, what is wrong with bytes that are not so, and the records
-- of a block.
use Rattle.std.specs.Prelude.{◌≡◌, ◌≢◌, ◌≤◌, ◌<◌, ℕ, zero, suc, ◌+◌, ◌-◌, ◌⊎◌, true, List, [], ◌∷◌, ◌++◌, length, drop, replicate, slice_index, nat_eq, if◌then◌else◌}
use Rattle.mq_blocks.specs.Windows.{number_at, window}
use Rattle.mq_kv_buckets.specs.Keys.{is_below}
use Rattle.mq_kv_buckets.specs.Records.{AreRising, IsRecord, Record, record_bytes, records_bytes, size_of, size_of_all}

-- the bytes of a bucket
abbrev pub bucket_size : ℕ
bucket_size = 4096

-- so many zeros
abbrev pub zero_bytes : ℕ → List ℕ
zero_bytes count = replicate count 0

-- records one behind the other, and then zeros
unfoldable pub padded : List Record → ℕ → List ℕ
padded rs zeros = records_bytes rs ++ zero_bytes zeros

-- the content of the bucket with these records
unfoldable pub bucket_bytes : List Record → List ℕ
bucket_bytes rs = padded rs (bucket_size - size_of_all rs)

-- The bytes are a bucket with these records: they stand in strictly rising order of keys, and the rest is
-- zeros.
pub record IsBucket (bytes : List ℕ) (rs : List Record) : Type 0 where
  pub rising : AreRising [] rs
  pub fits : size_of_all rs ≤ bucket_size
  pub is : bytes ≡ bucket_bytes rs

-- ---- the records of a block

-- the lengths in the first four bytes, where those that are missing count as zeros
abbrev pub key_length : List ℕ → ℕ
key_length bytes = number_at 2 0 bytes

abbrev pub value_length : List ℕ → ℕ
value_length bytes = number_at 2 2 bytes

-- the record with which the bytes begin
abbrev pub record_in : List ℕ → Record
record_in bytes = record {
  key = window bytes 4 (key_length bytes);
  value = window bytes (4 + key_length bytes) (value_length bytes);
}

-- at most `count` records, up to the first whose key has no bytes
unfoldable pub records_in : ℕ → List ℕ → List Record
records_in zero bytes = []
records_in (suc count) bytes =
    if nat_eq (key_length bytes) 0 then []
    else record_in bytes ∷ records_in count (drop (4 + key_length bytes + value_length bytes) bytes)

-- the records of a bucket, which are those that it was made of
abbrev pub records_of : List ℕ → List Record
records_of bytes = records_in (length bytes) bytes

-- the block is a bucket
abbrev pub IsFormed : List ℕ → Type 0
IsFormed bytes = IsBucket bytes (records_of bytes)

-- ---- what is wrong

-- the bytes from one place up to another are 0
abbrev pub AreZeros : List ℕ → ℕ → ℕ → Type 0
AreZeros bytes from end = (k : ℕ) → from ≤ k → k < end → slice_index bytes k ≡ 0

-- the key of the last of these records, and the key without bytes where there is none, which is before all
-- others
abbrev pub last_key : List ℕ → List Record → List ℕ
last_key last [] = last
last_key last (r ∷ rs) = last_key r.key rs

-- The bytes begin with a record that may stand behind one with the given key.
abbrev pub BeginWith : List ℕ → List ℕ → Record → Type 0
BeginWith last bytes r = IsRecord r × (is_below last r.key ≡ true) × (rest : List ℕ) × (bytes ≡ record_bytes r ++ rest)

-- They do so with a record of this key and this size.
pub record IsNext (last bytes key : List ℕ) (size : ℕ) : Type 0 where
  pub next : Record
  pub begins : BeginWith last bytes next
  pub key_is : key ≡ next.key
  pub size_is : size ≡ size_of next

-- The first two bytes say that a record begins here, and no record does that may stand here: its key or its
-- value is too long, it passes the end of the block, or its key is not above the one before it.
pub record IsBadRecord (last bytes : List ℕ) : Type 0 where
  pub begins : 1 ≤ key_length bytes
  pub none : (r : Record) → BeginWith last bytes r → ⊥

-- The first two bytes say that no record begins here, and the k-th byte from here is the first that is not 0.
pub record IsBadByte (bytes : List ℕ) (k : ℕ) : Type 0 where
  pub ends : key_length bytes ≡ 0
  pub zeros : (j : ℕ) → j < k → slice_index bytes j ≡ 0
  pub here : slice_index bytes k ≢ 0

-- The first thing that is wrong is at this offset: behind good records stands the first byte of a record that
-- is bad, or further on a byte of the rest that is not 0.
pub record IsFirstBad (bytes : List ℕ) (offset : ℕ) : Type 0 where
  pub records : List Record
  pub rest : List ℕ
  pub rising : AreRising [] records
  pub is : bytes ≡ records_bytes records ++ rest
  pub within : offset < length bytes
  pub behind : size_of_all records ≤ offset
  pub bad : ((offset ≡ size_of_all records) × IsBadRecord (last_key [] records) rest)
      ⊎ IsBadByte rest (offset - size_of_all records)
