-- Operations on buckets are operations on the store.
use Rattle.std.proofs.Common.{◌≡◌, ℕ, ◌<◌, ◌≤◌, Bool, true, false, cond, nat_eq, nat_lt, List, [], ◌∷◌, length, refl, sym, ap, subst, ◌∙◌, arith}
use Rattle.std.specs.Prelude.{Option, Some, None}
use Rattle.std.specs.Str.{bytes_eq}
use Rattle.std.proofs.Math.Nat.{mod-lt}
use Rattle.std.proofs.lemmas.Bool.{and_parts, eq-eqb, eqb-true, false≢true, ltb-false, ltb-true}
use Rattle.std.proofs.lemmas.Slice.Eq.{bytes_eq-Decides}
use Rattle.mq_blocks.specs.Blocks.{content}
use Rattle.mq_blocks.specs.Machine.{Map}
use Rattle.mq_kv_buckets.specs.Buckets.{IsBucket, IsFormed, bucket_bytes, bucket_size, records_of}
use Rattle.mq_kv_buckets.specs.Keys.{bucket_of, hash_from, is_below, value_limit}
use Rattle.mq_kv_buckets.specs.Records.{AreRising, IsRecord, Record, above, below, lookup, put_in, size_of_all, without}
use Rattle.mq_kv_buckets.specs.Store.{AreBuckets, Runs, Store, delete_reply, done_in, is_done, is_full, is_key, key_of, kv_of, map_after_ops, map_on, read_reply, records_at, replies_on, reply, reply_on, set_bucket, store_after, store_reply, stored}
use Rattle.mq_kv_buckets.specs.declared.operation.KvFault.TheVariants.{BucketFull, KeySize, ValueSize}
use Rattle.mq_kv_buckets.specs.declared.operation.KvOp.{KvOp}
use Rattle.mq_kv_buckets.specs.declared.operation.KvOp.TheVariants.{Delete, Get, Put}
use Rattle.mq_kv_buckets.specs.declared.operation.KvReply.{KvReply}
use Rattle.mq_kv_buckets.specs.declared.operation.KvReply.TheVariants.{Done, Missing, Refused, Value}
use Rattle.mq_kv_buckets.proofs.BucketsChecked.{formed}
use Rattle.mq_kv_buckets.proofs.BucketsReading.{its-records}
use Rattle.mq_kv_buckets.proofs.KeysOrder.{size-around}
use Rattle.mq_kv_buckets.proofs.RecordsBytes.{size_of_all-append}
use Rattle.mq_kv_buckets.proofs.RecordsEdited.{found-put, gone-without, other-put, other-without, rising-put, rising-without}

-- ---- an operation that is done

pub done-of : (r : KvReply) → is_done r ≡ true → r ≡ Done
done-of Done e = refl
done-of (Value v) e = absurd (cc)
done-of Missing e = absurd (cc)
done-of (Refused f) e = absurd (cc)

tests : (a b c : Bool) → cond a (cond b (Refused ValueSize) (cond c (Refused BucketFull) Done)) (Refused KeySize) ≡ Done → (a ≡ true) × (b ≡ false) × (c ≡ false)
tests true false false e = (refl, refl, refl)
tests true false true e = absurd (cc)
tests true true c e = absurd (cc)
tests false b c e = absurd (cc)

pub record IsPutDone (key value : List ℕ) (rs : List Record) : Type 0 where
  pub good : IsRecord (record { key = key; value = value })
  pub fits : size_of_all (put_in key value rs) ≤ 4096

pub put-done : (key value : List ℕ) (rs : List Record) → reply (Put key value) rs ≡ Done → IsPutDone key value rs
put-done key value rs e =
    let t = tests (is_key key) (nat_lt value_limit (length value)) (nat_lt bucket_size (size_of_all (put_in key value rs))) e in
    let k = and_parts (nat_lt 0 (length key)) (nat_lt (length key) 256) t.0 in
    let some : 0 < length key = ltb-true 0 (length key) k.0 in
    let few : length key < 256 = ltb-true (length key) 256 k.1 in
    record {
      good = record { some = omega arith; key_fits = omega arith; value_fits = ltb-false value_limit (length value) t.1 };
      fits = ltb-false bucket_size (size_of_all (put_in key value rs)) t.2;
    }

get-not-done : (key : List ℕ) (rs : List Record) → reply (Get key) rs ≡ Done → ⊥
get-not-done key rs e = by (is_key key) (lookup rs key) e
  where
    by : (t : Bool) (o : Option (List ℕ)) → cond t (read_reply o) (Refused KeySize) ≡ Done → ⊥
    by true None h = absurd (cc)
    by true (Some v) h = absurd (cc)
    by false o h = absurd (cc)

pub empty-below : (r : Record) → IsRecord r → is_below [] r.key ≡ true
empty-below r good = by r.key good.some
  where
    by : (k : List ℕ) → 1 ≤ length k → is_below [] k ≡ true
    by [] h = absurd (omega arith)
    by (x ∷ k) h = refl

less-without : (key last : List ℕ) (rs : List Record) → AreRising last rs → size_of_all (without key rs) ≤ size_of_all rs
less-without key last rs rise = omega (arith, size-around key last rs rise, size_of_all-append (below key rs) (above key rs))

pub done-bucket : (op : KvOp) (bytes : List ℕ) (rs : List Record) → IsBucket bytes rs → reply op rs ≡ Done → IsBucket (bucket_bytes (done_in op rs)) (done_in op rs)
done-bucket (Put key value) bytes rs b e =
    let d = put-done key value rs e in
    record { rising = rising-put key value [] rs d.good (empty-below (record { key = key; value = value }) d.good) b.rising; fits = d.fits; is = refl }
done-bucket (Delete key) bytes rs b e =
    record { rising = rising-without key [] rs b.rising; fits = (let l = less-without key [] rs b.rising in let f = b.fits in omega arith); is = refl }
done-bucket (Get key) bytes rs b e = absurd (get-not-done key rs e)

-- what an operation that is done puts under its key
abbrev new_of : KvOp → Option (List ℕ)
new_of (Put key value) = Some value
new_of (Delete key) = None
new_of (Get key) = None

done-same : (op : KvOp) (rs : List Record) → reply op rs ≡ Done → lookup (done_in op rs) (key_of op) ≡ new_of op
done-same (Put key value) rs e = found-put key value rs
done-same (Delete key) rs e = gone-without key rs
done-same (Get key) rs e = absurd (get-not-done key rs e)

done-other : (op : KvOp) (rs : List Record) (other : List ℕ) → AreRising [] rs → bytes_eq (key_of op) other ≡ false → lookup (done_in op rs) other ≡ lookup rs other
done-other (Put key value) rs other rise e = other-put key value [] other rs rise e
done-other (Delete key) rs other rise e = other-without key [] other rs rise e
done-other (Get key) rs other rise e = refl

store-done : (s : Store) (op : KvOp) (rs : List Record) → reply op rs ≡ Done → (other : List ℕ) → store_after s op Done other ≡ cond (bytes_eq (key_of op) other) (new_of op) (s other)
store-done s (Put key value) rs e other = refl
store-done s (Delete key) rs e other = refl
store-done s (Get key) rs e other = absurd (get-not-done key rs e)

store-kept : (s : Store) (op : KvOp) (r : KvReply) → is_done r ≡ false → (other : List ℕ) → store_after s op r other ≡ s other
store-kept s (Put key value) Done e other = absurd (cc)
store-kept s (Put key value) (Value v) e other = refl
store-kept s (Put key value) Missing e other = refl
store-kept s (Put key value) (Refused f) e other = refl
store-kept s (Delete key) Done e other = absurd (cc)
store-kept s (Delete key) (Value v) e other = refl
store-kept s (Delete key) Missing e other = refl
store-kept s (Delete key) (Refused f) e other = refl
store-kept s (Get key) r e other = refl

-- ---- on the blocks

pub bucket-low : (buckets : ℕ) (key : List ℕ) → 1 ≤ buckets → bucket_of buckets key < buckets
bucket-low buckets key some = mod-lt (hash_from 0 key) (omega arith)

-- the records of a bucket that was set
set-records : (m : Map) (b : ℕ) (rs : List Record) (other : ℕ) → IsBucket (bucket_bytes rs) rs → records_at (set_bucket m b rs) other ≡ cond (nat_eq b other) rs (records_at m other)
set-records m b rs other bucket = by (nat_eq b other)
  where
    by : (t : Bool) → records_of (content (cond t (Some (bucket_bytes rs)) (m other))) ≡ cond t rs (records_at m other)
    by true = its-records (bucket_bytes rs) rs bucket
    by false = refl

kv-set : (buckets : ℕ) (m : Map) (op : KvOp) (rs : List Record) → rs ≡ records_at m (bucket_of buckets (key_of op)) → IsBucket (content (m (bucket_of buckets (key_of op)))) rs → reply op rs ≡ Done → (other : List ℕ)
    → kv_of buckets (set_bucket m (bucket_of buckets (key_of op)) (done_in op rs)) other ≡ cond (bytes_eq (key_of op) other) (new_of op) (kv_of buckets m other)
kv-set buckets m op rs is bucket done other =
    ap (λ (xs : List Record). lookup xs other) (set-records m (bucket_of buckets (key_of op)) (done_in op rs) (bucket_of buckets other) (done-bucket op _ rs bucket done))
    ∙ by (nat_eq (bucket_of buckets (key_of op)) (bucket_of buckets other)) refl (bytes_eq (key_of op) other) refl
  where
    by : (t : Bool) → nat_eq (bucket_of buckets (key_of op)) (bucket_of buckets other) ≡ t → (u : Bool) → bytes_eq (key_of op) other ≡ u
        → lookup (cond t (done_in op rs) (records_at m (bucket_of buckets other))) other ≡ cond u (new_of op) (kv_of buckets m other)
    by true e true f = let same : key_of op ≡ other = (bytes_eq-Decides (key_of op) other).0 f in ap (lookup (done_in op rs)) (sym same) ∙ done-same op rs done
    by true e false f =
        let b : bucket_of buckets (key_of op) ≡ bucket_of buckets other = eqb-true _ _ e in
        done-other op rs other bucket.rising f ∙ ap (λ (xs : List Record). lookup xs other) (is ∙ ap (records_at m) b)
    by false e true f =
        let same : key_of op ≡ other = (bytes_eq-Decides (key_of op) other).0 f in
        absurd (false≢true (sym e ∙ eq-eqb _ _ (ap (bucket_of buckets) same)))
    by false e false f = refl

set-kept : (buckets : ℕ) (m : Map) (b : ℕ) (rs : List Record) → AreBuckets buckets m → IsBucket (bucket_bytes rs) rs → AreBuckets buckets (set_bucket m b rs)
set-kept buckets m b rs all bucket other low = by (nat_eq b other)
  where
    by : (t : Bool) → IsFormed (content (cond t (Some (bucket_bytes rs)) (m other)))
    by true = formed (bucket_bytes rs) rs bucket
    by false = all other low

pub on-store : (buckets : ℕ) (m : Map) (op : KvOp) → 1 ≤ buckets → AreBuckets buckets m
    → AreBuckets buckets (map_on buckets m op) × ((key : List ℕ) → kv_of buckets (map_on buckets m op) key ≡ store_after (kv_of buckets m) op (reply_on buckets m op) key)
on-store buckets m op some all = by (reply_on buckets m op) refl
  where
    by : (r : KvReply) → reply_on buckets m op ≡ r
        → AreBuckets buckets (map_on buckets m op) × ((key : List ℕ) → kv_of buckets (map_on buckets m op) key ≡ store_after (kv_of buckets m) op (reply_on buckets m op) key)
    by r e = then (is_done r) refl
      where
        then : (t : Bool) → is_done r ≡ t
            → AreBuckets buckets (map_on buckets m op) × ((key : List ℕ) → kv_of buckets (map_on buckets m op) key ≡ store_after (kv_of buckets m) op (reply_on buckets m op) key)
        then true d =
            let done : reply_on buckets m op ≡ Done = e ∙ done-of r d in
            let bucket = all (bucket_of buckets (key_of op)) (bucket-low buckets (key_of op) some) in
            let rs : List Record = records_at m (bucket_of buckets (key_of op)) in
            let moved : map_on buckets m op ≡ set_bucket m (bucket_of buckets (key_of op)) (done_in op (records_at m (bucket_of buckets (key_of op)))) =
            ap (λ (x : KvReply). cond (is_done x) (set_bucket m (bucket_of buckets (key_of op)) (done_in op (records_at m (bucket_of buckets (key_of op))))) m) done in
            let P : Map → Type 0 = λ n. AreBuckets buckets n in (
              subst P (sym moved) (set-kept buckets m (bucket_of buckets (key_of op)) (done_in op (records_at m (bucket_of buckets (key_of op)))) all (done-bucket op _ (records_at m (bucket_of buckets (key_of op))) bucket done)),
              λ key. ap (λ (n : Map). kv_of buckets n key) moved ∙ kv-set buckets m op (records_at m (bucket_of buckets (key_of op))) refl bucket done key
                  ∙ sym (ap (λ (x : KvReply). store_after (kv_of buckets m) op x key) done ∙ store-done (kv_of buckets m) op (records_at m (bucket_of buckets (key_of op))) done key),
            )
        then false d =
            let kept : is_done (reply_on buckets m op) ≡ false = ap is_done e ∙ d in
            let same : map_on buckets m op ≡ m = ap (λ (x : Bool). cond x (set_bucket m (bucket_of buckets (key_of op)) (done_in op (records_at m (bucket_of buckets (key_of op))))) m) kept in
            let P : Map → Type 0 = λ n. AreBuckets buckets n in
            (subst P (sym same) all, λ key. ap (λ (n : Map). kv_of buckets n key) same ∙ sym (store-kept (kv_of buckets m) op (reply_on buckets m op) kept key))

pub replies-are : (buckets : ℕ) (m : Map) (op : KvOp) → reply_on buckets m op ≡ store_reply (kv_of buckets m) (is_full buckets m op) op
replies-are buckets m (Put key value) = refl
replies-are buckets m (Delete key) = refl
replies-are buckets m (Get key) = refl

-- ---- operations one after another

-- stores that agree at each key
abbrev pub Alike : Store → Store → Type 0
Alike s t = (key : List ℕ) → s key ≡ t key

alike-reply : (s t : Store) (full : Bool) (op : KvOp) → Alike s t → store_reply s full op ≡ store_reply t full op
alike-reply s t full (Put key value) h = refl
alike-reply s t full (Delete key) h = ap (λ (o : Option (List ℕ)). cond (is_key key) (delete_reply o) (Refused KeySize)) (h key)
alike-reply s t full (Get key) h = ap (λ (o : Option (List ℕ)). cond (is_key key) (read_reply o) (Refused KeySize)) (h key)

alike-stored : (s t : Store) (key : List ℕ) (v : Option (List ℕ)) → Alike s t → Alike (stored s key v) (stored t key v)
alike-stored s t key v h other = ap (λ (o : Option (List ℕ)). cond (bytes_eq key other) v o) (h other)

alike-after : (s t : Store) (op : KvOp) (r : KvReply) → Alike s t → Alike (store_after s op r) (store_after t op r)
alike-after s t (Put key value) Done h = alike-stored s t key (Some value) h
alike-after s t (Put key value) (Value v) h = h
alike-after s t (Put key value) Missing h = h
alike-after s t (Put key value) (Refused f) h = h
alike-after s t (Delete key) Done h = alike-stored s t key None h
alike-after s t (Delete key) (Value v) h = h
alike-after s t (Delete key) Missing h = h
alike-after s t (Delete key) (Refused f) h = h
alike-after s t (Get key) r h = h

pub alike-runs : (s t u : Store) (ops : List KvOp) (rs : List KvReply) → Alike s t → Runs s ops rs u → Runs t ops rs u
alike-runs s t u [] [] h run = λ key. run key ∙ h key
alike-runs s t u [] (r ∷ rs) h run = run
alike-runs s t u (op ∷ ops) [] h run = run
alike-runs s t u (op ∷ ops) (r ∷ rs) h run = ((run.0.0, run.0.1 ∙ alike-reply s t run.0.0 op h), alike-runs (store_after s op r) (store_after t op r) u ops rs (alike-after s t op r h) run.1)

pub groups-run : (buckets : ℕ) (m : Map) (ops : List KvOp) → 1 ≤ buckets → AreBuckets buckets m
    → AreBuckets buckets (map_after_ops buckets m ops) × Runs (kv_of buckets m) ops (replies_on buckets m ops) (kv_of buckets (map_after_ops buckets m ops))
groups-run buckets m [] some all = (all, λ key. refl)
groups-run buckets m (op ∷ ops) some all =
    let one = on-store buckets m op some all in
    let rest = groups-run buckets (map_on buckets m op) ops some one.0 in
    (rest.0, ((is_full buckets m op, replies-are buckets m op), alike-runs _ _ _ ops _ one.1 rest.1))
