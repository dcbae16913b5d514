-- Laws of buckets.
use Rattle.std.specs.Prelude.{◌≡◌, ◌≤◌, ℕ, List}
use Rattle.mq_blocks.specs.Machine.{Map}
use Rattle.mq_kv_buckets.specs.Buckets.{IsBucket, IsFirstBad, records_of}
use Rattle.mq_kv_buckets.specs.Records.{Record}
use Rattle.mq_kv_buckets.specs.Store.{AreBuckets, Runs, is_full, kv_of, map_after_ops, map_on, replies_on, reply_on, store_after, store_reply}
use Rattle.mq_kv_buckets.specs.declared.operation.KvOp.{KvOp}

-- a bucket has the records that it was made of
abbrev pub BucketsHaveTheirRecords : Type 0
BucketsHaveTheirRecords = (bytes : List ℕ) (rs : List Record) → IsBucket bytes rs → records_of bytes ≡ rs

-- nothing is wrong in a bucket
abbrev pub NothingIsBad : Type 0
NothingIsBad = (bytes : List ℕ) (rs : List Record) (offset : ℕ) → IsBucket bytes rs → IsFirstBad bytes offset → ⊥

-- at most one offset is the first at which something is wrong
abbrev pub OneIsBad : Type 0
OneIsBad = (bytes : List ℕ) (first second : ℕ) → IsFirstBad bytes first → IsFirstBad bytes second → first ≡ second

-- ---- the store

-- the reply to an operation is the store's
abbrev pub RepliesAreOfTheStore : Type 0
RepliesAreOfTheStore =
    (buckets : ℕ) (m : Map) (op : KvOp)
    → reply_on buckets m op ≡ store_reply (kv_of buckets m) (is_full buckets m op) op

-- after an operation the buckets are in their form, and hold the store after it
abbrev pub OperationsAreOnTheStore : Type 0
OperationsAreOnTheStore =
    (buckets : ℕ) (m : Map) (op : KvOp) → 1 ≤ buckets → AreBuckets buckets m
    → AreBuckets buckets (map_on buckets m op)
    × ((key : List ℕ) → kv_of buckets (map_on buckets m op) key ≡ store_after (kv_of buckets m) op (reply_on buckets m op) key)

-- so it is for operations one after another
abbrev pub GroupsRunOnTheStore : Type 0
GroupsRunOnTheStore =
    (buckets : ℕ) (m : Map) (ops : List KvOp) → 1 ≤ buckets → AreBuckets buckets m
    → AreBuckets buckets (map_after_ops buckets m ops)
    × Runs (kv_of buckets m) ops (replies_on buckets m ops) (kv_of buckets (map_after_ops buckets m ops))
