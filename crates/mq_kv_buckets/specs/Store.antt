-- The store: what an operation answers and does, on the records of a bucket, on the buckets of a drive, and on
-- the map from keys to values that these hold.
use Rattle.std.specs.Prelude.{◌≡◌, ◌<◌, ◌+◌, ℕ, Bool, true, false, ◌&&◌, List, [], ◌∷◌, length, Option, Some, None, nat_eq, nat_lt, if◌then◌else◌}
use Rattle.std.specs.Str.{bytes_eq}
use Rattle.mq_blocks.specs.Blocks.{content}
use Rattle.mq_blocks.specs.Machine.{Map}
use Rattle.mq_kv_buckets.specs.Buckets.{IsFormed, bucket_bytes, bucket_size, records_of}
use Rattle.mq_kv_buckets.specs.Keys.{bucket_of, key_limit, value_limit}
use Rattle.mq_kv_buckets.specs.Records.{Record, lookup, put_in, size_of_all, without}
use Rattle.mq_kv_buckets.specs.declared.operation.KvFault.TheVariants.{BucketFull, KeySize, ValueSize}
use Rattle.mq_kv_buckets.specs.declared.operation.KvOp.{KvOp}
use Rattle.mq_kv_buckets.specs.declared.operation.KvOp.TheVariants.{Delete, Get, Put}
use Rattle.mq_kv_buckets.specs.declared.operation.KvReply.{KvReply}
use Rattle.mq_kv_buckets.specs.declared.operation.KvReply.TheVariants.{Done, Missing, Refused, Value}

abbrev pub key_of : KvOp → List ℕ
key_of (Put key value) = key
key_of (Delete key) = key
key_of (Get key) = key

-- the key has 1 to 255 bytes
abbrev pub is_key : List ℕ → Bool
is_key key = nat_lt 0 (length key) && nat_lt (length key) (key_limit + 1)

-- ---- on the records of the key's bucket

abbrev pub read_reply : Option (List ℕ) → KvReply
read_reply None = Missing
read_reply (Some value) = Value value

abbrev pub delete_reply : Option (List ℕ) → KvReply
delete_reply None = Missing
delete_reply (Some value) = Done

abbrev pub put_reply : List ℕ → List ℕ → List Record → KvReply
put_reply key value rs =
    if nat_lt value_limit (length value) then Refused ValueSize
    else (if nat_lt bucket_size (size_of_all (put_in key value rs)) then Refused BucketFull else Done)

-- what an operation answers where its key has a good length
abbrev pub reply_in : KvOp → List Record → KvReply
reply_in (Put key value) rs = put_reply key value rs
reply_in (Delete key) rs = delete_reply (lookup rs key)
reply_in (Get key) rs = read_reply (lookup rs key)

-- What an operation answers. A key of another length is refused, whatever is asked of it.
abbrev pub reply : KvOp → List Record → KvReply
reply op rs = if is_key (key_of op) then reply_in op rs else Refused KeySize

abbrev pub is_done : KvReply → Bool
is_done Done = true
is_done (Value value) = false
is_done Missing = false
is_done (Refused fault) = false

-- the records after an operation that is done
abbrev pub done_in : KvOp → List Record → List Record
done_in (Put key value) rs = put_in key value rs
done_in (Delete key) rs = without key rs
done_in (Get key) rs = rs

-- ---- on the buckets of a drive

-- the records in a bucket; a block that is absent is an empty one
abbrev pub records_at : Map → ℕ → List Record
records_at m b = records_of (content (m b))

-- each of the buckets is in its form
abbrev pub AreBuckets : ℕ → Map → Type 0
AreBuckets buckets m = (b : ℕ) → b < buckets → IsFormed (content (m b))

abbrev pub set_bucket : Map → ℕ → List Record → Map
set_bucket m bucket rs b = if nat_eq bucket b then Some (bucket_bytes rs) else m b

abbrev pub reply_on : ℕ → Map → KvOp → KvReply
reply_on buckets m op = reply op (records_at m (bucket_of buckets (key_of op)))

-- the blocks after an operation: that of the key's bucket is another where the operation was done
abbrev pub map_on : ℕ → Map → KvOp → Map
map_on buckets m op =
    if is_done (reply_on buckets m op)
    then set_bucket m (bucket_of buckets (key_of op)) (done_in op (records_at m (bucket_of buckets (key_of op))))
    else m

-- operations one after another
abbrev pub replies_on : ℕ → Map → List KvOp → List KvReply
replies_on buckets m [] = []
replies_on buckets m (op ∷ ops) = reply_on buckets m op ∷ replies_on buckets (map_on buckets m op) ops

abbrev pub map_after_ops : ℕ → Map → List KvOp → Map
map_after_ops buckets m [] = m
map_after_ops buckets m (op ∷ ops) = map_after_ops buckets (map_on buckets m op) ops

-- ---- the store

-- A store maps keys to values. There are finitely many of them, since each stands in a bucket.
abbrev pub Store : Type 0
Store = List ℕ → Option (List ℕ)

-- what the buckets hold: a key is looked up in its own bucket
abbrev pub kv_of : ℕ → Map → Store
kv_of buckets m key = lookup (records_at m (bucket_of buckets key)) key

-- the store with this value under the key, or with none
abbrev pub stored : Store → List ℕ → Option (List ℕ) → Store
stored s key value other = if bytes_eq key other then value else s other

-- what an operation that is answered so makes of a store
abbrev pub store_after : Store → KvOp → KvReply → Store
store_after s (Put key value) Done = stored s key (Some value)
store_after s (Delete key) Done = stored s key None
store_after s op r = s

-- whether the bucket of a key would pass its size with this value
abbrev pub is_full : ℕ → Map → KvOp → Bool
is_full buckets m (Put key value) = nat_lt bucket_size (size_of_all (put_in key value (records_at m (bucket_of buckets key))))
is_full buckets m (Delete key) = false
is_full buckets m (Get key) = false

-- what a store answers, where it is told whether the bucket would pass its size
abbrev pub store_reply_in : Store → Bool → KvOp → KvReply
store_reply_in s full (Put key value) =
    if nat_lt value_limit (length value) then Refused ValueSize
    else (if full then Refused BucketFull else Done)
store_reply_in s full (Delete key) = delete_reply (s key)
store_reply_in s full (Get key) = read_reply (s key)

abbrev pub store_reply : Store → Bool → KvOp → KvReply
store_reply s full op = if is_key (key_of op) then store_reply_in s full op else Refused KeySize

-- a reply that the store gives
abbrev pub IsReply : Store → KvOp → KvReply → Type 0
IsReply s op r = (full : Bool) × (r ≡ store_reply s full op)

-- Operations one after another on a store, with these replies, leave this one.
abbrev pub Runs : Store → List KvOp → List KvReply → Store → Type 0
Runs s [] [] t = (key : List ℕ) → t key ≡ s key
Runs s [] (r ∷ rs) t = ⊥
Runs s (op ∷ ops) [] t = ⊥
Runs s (op ∷ ops) (r ∷ rs) t = IsReply s op r × Runs (store_after s op r) ops rs t
