use Rattle.std.proofs.Common.{◌≡◌, ◌<◌, ◌^◌, drop}
use Rattle.mq_kv_buckets.specs.Keys.{hash_from}
use Rattle.mq_kv_buckets.proofs.key.hash.Given as goal

-- the bytes that are left make of the hash so far that of the whole key
abbrev pub invariant-loop-byte : goal.invariant-loop-byte
invariant-loop-byte l = record {
  low : l.hash < 2 ^ 32;
  is : hash_from l.hash (drop l.byte-index l.key) ≡ hash_from 0 l.key;
}
