-- Keys: their order, and which bucket one belongs to.
use Rattle.std.specs.Prelude.{ℕ, ◌+◌, ◌*◌, ◌%◌, ◌^◌, Bool, List, [], ◌∷◌}
use Rattle.std.specs.Cmp.Lexicographic.{slice_cmp}
use Rattle.std.specs.Ordering.{is_gt, is_lt, nat_cmp}

-- the most bytes of a key
abbrev pub key_limit : ℕ
key_limit = 255

-- the most bytes of a value
abbrev pub value_limit : ℕ
value_limit = 1024

-- a key is before another: byte by byte, and a key before each longer one that begins with it
abbrev pub is_below : List ℕ → List ℕ → Bool
is_below a b = is_lt (slice_cmp nat_cmp a b)

abbrev pub is_above : List ℕ → List ℕ → Bool
is_above a b = is_gt (slice_cmp nat_cmp a b)

-- what the further bytes of a key make of the hash of those before them
abbrev pub hash_from : ℕ → List ℕ → ℕ
hash_from hash [] = hash
hash_from hash (byte ∷ bytes) = hash_from ((hash * 31 + byte) % 2 ^ 32) bytes

-- the bucket of a key, of so many buckets
abbrev pub bucket_of : ℕ → List ℕ → ℕ
bucket_of buckets key = hash_from 0 key % buckets
