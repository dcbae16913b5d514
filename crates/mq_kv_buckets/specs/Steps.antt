-- What an operation comes to in its bucket, before anything is changed.
use Rattle.std.specs.Prelude.{◌≡◌, ℕ, false, List}
use Rattle.mq_kv_buckets.specs.Edits.{IsSpot}
use Rattle.mq_kv_buckets.specs.Records.{Record, lookup, size_of_all}
use Rattle.mq_kv_buckets.specs.Store.{delete_reply, is_done, key_of, put_reply, reply}
use Rattle.mq_kv_buckets.specs.declared.operation.KvOp.{KvOp}
use Rattle.mq_kv_buckets.specs.declared.operation.KvReply.TheVariants.{Done}
use Rattle.mq_kv_buckets.specs.declared.step.Place.{Place}
use Rattle.mq_kv_buckets.specs.declared.step.Step.{Step}
use Rattle.mq_kv_buckets.specs.declared.step.Step.TheVariants.{Edit, Reply}

-- the record of the key is there, or would be, and the records end there
pub record IsPlace (rs : List Record) (key : List ℕ) (place : Place) : Type 0 where
  pub spot : IsSpot rs key place.spot.at place.spot.size
  pub end : place.end ≡ size_of_all rs

-- It is answered, and changes nothing; or it is done by an edit at the place of its key.
abbrev pub IsStep : List Record → KvOp → Step → Type 0
IsStep rs op (Reply r) = (reply op rs ≡ r) × (is_done r ≡ false)
IsStep rs op (Edit place) = (reply op rs ≡ Done) × IsPlace rs (key_of op) place

-- the same of a put, and of a delete, of a key of a good length
abbrev pub IsPutStep : List Record → List ℕ → List ℕ → Step → Type 0
IsPutStep rs key value (Reply r) = (put_reply key value rs ≡ r) × (is_done r ≡ false)
IsPutStep rs key value (Edit place) = (put_reply key value rs ≡ Done) × IsPlace rs key place

abbrev pub IsDeleteStep : List Record → List ℕ → Step → Type 0
IsDeleteStep rs key (Reply r) = (delete_reply (lookup rs key) ≡ r) × (is_done r ≡ false)
IsDeleteStep rs key (Edit place) = (delete_reply (lookup rs key) ≡ Done) × IsPlace rs key place
