-- What an operation comes to.
use Rattle.std.proofs.Common.{◌≡◌, ℕ, ◌-◌, ◌<◌, ◌≤◌, Bool, cond, nat_lt, List, [], length, refl, sym, ap, subst, ◌∙◌, arith}
use Rattle.std.specs.Prelude.{Option, None}
use Rattle.std.proofs.lemmas.Bool.{le-ltb, lt-ltb}
use Rattle.mq_blocks.specs.Blocks.{content, zeros}
use Rattle.mq_kv_buckets.specs.Buckets.{IsBucket, bucket_bytes, bucket_size, records_of}
use Rattle.mq_kv_buckets.specs.Keys.{value_limit}
use Rattle.mq_kv_buckets.specs.Records.{Record, lookup, put_in, size_of_all}
use Rattle.mq_kv_buckets.specs.Steps.{IsPlace}
use Rattle.mq_kv_buckets.specs.Store.{put_reply, read_reply}
use Rattle.mq_kv_buckets.specs.declared.operation.KvFault.TheVariants.{BucketFull, ValueSize}
use Rattle.mq_kv_buckets.specs.declared.operation.KvReply.TheVariants.{Done, Missing, Refused}
use Rattle.mq_kv_buckets.proofs.BucketsReading.{its-records, padded-none}

pub zeros-bucket : IsBucket zeros []
unfolding zeros bucket_bytes
zeros-bucket = record { rising = tt; fits = omega arith; is = sym (padded-none (bucket_size - size_of_all [])) }

pub no-records : records_of zeros ≡ []
no-records = its-records zeros [] zeros-bucket

-- a block that is absent is an empty bucket
absent-records : (o : Option (List ℕ)) → o ≡ None → records_of (content o) ≡ []
absent-records o e = ap (λ (x : Option (List ℕ)). records_of (content x)) e ∙ no-records

pub absent-place : (o : Option (List ℕ)) (key : List ℕ) → o ≡ None → IsPlace (records_of (content o)) key (record { spot = record { at = 0; size = 0 }; end = 0 })
absent-place o key e =
    let P : List Record → Type 0 = λ rs. IsPlace rs key (record { spot = record { at = 0; size = 0 }; end = 0 }) in
    subst P (sym (absent-records o e)) (record { spot = record { at_is = refl; size_is = refl }; end = refl })

pub absent-read : (o : Option (List ℕ)) (key : List ℕ) → o ≡ None → Missing ≡ read_reply (lookup (records_of (content o)) key)
absent-read o key e = sym (ap (λ (rs : List Record). read_reply (lookup rs key)) (absent-records o e))

pub full-reply : (key value : List ℕ) (rs : List Record) → length value ≤ 1024 → 4096 < size_of_all (put_in key value rs) → put_reply key value rs ≡ Refused BucketFull
full-reply key value rs few full =
    ap (λ (t : Bool). cond t (Refused ValueSize) (cond (nat_lt bucket_size (size_of_all (put_in key value rs))) (Refused BucketFull) Done)) (le-ltb value_limit (length value) few)
    ∙ ap (λ (t : Bool). cond t (Refused BucketFull) Done) (lt-ltb bucket_size (size_of_all (put_in key value rs)) full)

pub fine-reply : (key value : List ℕ) (rs : List Record) → length value ≤ 1024 → size_of_all (put_in key value rs) ≤ 4096 → put_reply key value rs ≡ Done
fine-reply key value rs few fits =
    ap (λ (t : Bool). cond t (Refused ValueSize) (cond (nat_lt bucket_size (size_of_all (put_in key value rs))) (Refused BucketFull) Done)) (le-ltb value_limit (length value) few)
    ∙ ap (λ (t : Bool). cond t (Refused BucketFull) Done) (le-ltb bucket_size (size_of_all (put_in key value rs)) fits)
