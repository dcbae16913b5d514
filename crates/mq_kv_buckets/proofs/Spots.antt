-- Where the record of a key stands.
use Rattle.std.proofs.Common.{◌≡◌, ◌≢◌, inl, inr, ℕ, ◌+◌, ◌-◌, ◌<◌, ◌≤◌, List, [], ◌∷◌, ◌++◌, length, take, drop, refl, sym, ap, subst, ◌∙◌, arith, append_assoc}
use Rattle.std.specs.Prelude.{Option, Some, None}
use Rattle.std.specs.declared.cmp.Ordering.TheVariants.{Less, Equal, Greater}
use Rattle.std.proofs.lemmas.List.{append-nil, drop-drop, drop_at}
use Rattle.mq_blocks.specs.Windows.{number_at, window}
use Rattle.mq_kv_buckets.specs.Buckets.{IsBucket, bucket_bytes, bucket_size, key_length, padded, value_length, zero_bytes}
use Rattle.mq_kv_buckets.specs.Edits.{IsBetween, IsSpot, size_with}
use Rattle.mq_kv_buckets.specs.Records.{AreRising, IsRecord, Record, above, below, lookup, record_bytes, records_bytes, size_of, size_of_all}
use Rattle.mq_kv_buckets.proofs.BucketsNext.{key_length-at, value_length-at}
use Rattle.mq_kv_buckets.proofs.BucketsReading.{length-bucket_bytes, padded-more, padded-none}
use Rattle.mq_kv_buckets.proofs.KeysOrder.{all-behind, below-append, below-drops, below-passes, cmp, equal-same, greater-less, here, lookup-append, lookup-here, lookup-on, rising-behind, split}
use Rattle.mq_kv_buckets.proofs.RecordsBytes.{key-read, key_length-read, length-records_bytes, no-key_length, records_bytes-append, size_of_all-append, value-read, value_length-read}

-- ---- at a place between two records

pub padded-append : (rs ss : List Record) (n : ℕ) → padded (rs ++ ss) n ≡ records_bytes rs ++ padded ss n
unfolding padded
padded-append rs ss n = ap (λ (xs : List ℕ). xs ++ zero_bytes n) (records_bytes-append rs ss) ∙ append_assoc (records_bytes rs) (records_bytes ss) (zero_bytes n)

-- what stands behind the first of the records
pub behind-some : (bytes : List ℕ) (rs before behind : List Record) (at : ℕ) → IsBucket bytes rs → rs ≡ before ++ behind → at ≡ size_of_all before → drop at bytes ≡ padded behind (bucket_size - size_of_all rs)
unfolding bucket_bytes
behind-some bytes rs before behind at b split at_is =
    ap (λ (xs : List ℕ). drop at xs) (b.is ∙ ap (λ (xs : List Record). padded xs (bucket_size - size_of_all rs)) split ∙ padded-append before behind (bucket_size - size_of_all rs))
    ∙ drop_at (records_bytes before) (padded behind (bucket_size - size_of_all rs)) at (length-records_bytes before ∙ sym at_is)

pub whole : (bytes : List ℕ) (rs : List Record) → IsBucket bytes rs → length bytes ≡ 4096
whole bytes rs b = ap length b.is ∙ length-bucket_bytes rs b.fits

-- the record that begins here
pub record IsHere (bytes : List ℕ) (at : ℕ) (r : Record) : Type 0 where
  pub key_is : number_at 2 at bytes ≡ length r.key
  pub value_is : number_at 2 (at + 2) bytes ≡ length r.value
  pub key : window bytes (at + 4) (length r.key) ≡ r.key
  pub value : window bytes (at + 4 + length r.key) (length r.value) ≡ r.value

pub is-here : (bytes rest : List ℕ) (at : ℕ) (r : Record) → IsRecord r → drop at bytes ≡ record_bytes r ++ rest → IsHere bytes at r
is-here bytes rest at r good e =
    let four : drop (at + 4) bytes ≡ drop 4 (record_bytes r ++ rest) = sym (drop-drop 4 at bytes) ∙ ap (λ (xs : List ℕ). drop 4 xs) e in
    let place : at + 4 + length r.key ≡ at + (4 + length r.key) = omega arith in
    let more : drop (at + 4 + length r.key) bytes ≡ drop (4 + length r.key) (record_bytes r ++ rest) =
    ap (λ (n : ℕ). drop n bytes) place ∙ sym (drop-drop (4 + length r.key) at bytes) ∙ ap (λ (xs : List ℕ). drop (4 + length r.key) xs) e in
    record {
      key_is = sym (key_length-at at bytes) ∙ ap key_length e ∙ key_length-read r rest good;
      value_is = sym (value_length-at at bytes) ∙ ap value_length e ∙ value_length-read r rest good;
      key = ap (λ (xs : List ℕ). take (length r.key) xs) four ∙ key-read r rest;
      value = ap (λ (xs : List ℕ). take (length r.value) xs) more ∙ value-read r rest;
    }

-- where the lengths are those of a record, there is one
pub record IsFollowed (bytes : List ℕ) (rs : List Record) (at : ℕ) (b : IsBetween rs at) : Type 0 where
  pub next : Record
  pub rest : List Record
  pub is : b.behind ≡ next ∷ rest
  pub good : IsRecord next
  pub rising : AreRising next.key rest
  pub here : IsHere bytes at next
  pub fits : at + size_of next ≤ 4096

good-behind : (last : List ℕ) (r : Record) (rest : List Record) → AreRising last (r ∷ rest) → IsRecord r × AreRising r.key rest
good-behind last r rest rise = (rise.0, rise.2)

none-behind : (bytes : List ℕ) (rs : List Record) (at : ℕ) → IsBucket bytes rs → (b : IsBetween rs at) → b.behind ≡ [] → number_at 2 at bytes ≡ 0
none-behind bytes rs at bucket b e =
    let z : ℕ = bucket_size - size_of_all rs in
    sym (key_length-at at bytes)
    ∙ ap key_length (behind-some bytes rs b.before b.behind at bucket b.split b.at_is ∙ ap (λ (xs : List Record). padded xs (bucket_size - size_of_all rs)) e ∙ padded-none (bucket_size - size_of_all rs))
    ∙ no-key_length (bucket_size - size_of_all rs)

followed : (bytes : List ℕ) (rs : List Record) (at : ℕ) → IsBucket bytes rs → (b : IsBetween rs at) → (r : Record) (rest : List Record) → b.behind ≡ r ∷ rest → IsFollowed bytes rs at b
followed bytes rs at bucket b r rest e =
    let P : List Record → Type 0 = λ xs. AreRising [] xs in
    let all : rs ≡ b.before ++ r ∷ rest = b.split ∙ ap (λ (xs : List Record). b.before ++ xs) e in
    let from = rising-behind [] b.before (r ∷ rest) (subst P all bucket.rising) in
    let parts = good-behind from.0 r rest from.1 in
    let there : drop at bytes ≡ record_bytes r ++ padded rest (bucket_size - size_of_all rs) =
    behind-some bytes rs b.before b.behind at bucket b.split b.at_is ∙ ap (λ (xs : List Record). padded xs (bucket_size - size_of_all rs)) e ∙ padded-more r rest (bucket_size - size_of_all rs) in
    let sum : size_of_all rs ≡ size_of_all b.before + (size_of r + size_of_all rest) = ap size_of_all all ∙ size_of_all-append b.before (r ∷ rest) in
    let at_is = b.at_is in
    let fits = bucket.fits in
    record {
      next = r;
      rest = rest;
      is = e;
      good = parts.0;
      rising = parts.1;
      here = is-here bytes (padded rest (bucket_size - size_of_all rs)) at r parts.0 there;
      fits = omega arith;
    }

pub next-of : (bytes : List ℕ) (rs : List Record) (at : ℕ) → IsBucket bytes rs → (b : IsBetween rs at) → 1 ≤ number_at 2 at bytes → IsFollowed bytes rs at b
next-of bytes rs at bucket b some = by b.behind refl
  where
    by : (xs : List Record) → b.behind ≡ xs → IsFollowed bytes rs at b
    by [] e = let z = none-behind bytes rs at bucket b e in absurd (omega arith)
    by (r ∷ rest) e = followed bytes rs at bucket b r rest e

pub end-here : (bytes : List ℕ) (rs : List Record) (at : ℕ) → IsBucket bytes rs → (b : IsBetween rs at) → number_at 2 at bytes ≡ 0 → b.behind ≡ []
end-here bytes rs at bucket b none = by b.behind refl
  where
    by : (xs : List Record) → b.behind ≡ xs → b.behind ≡ []
    by [] e = e
    by (r ∷ rest) e = let f = followed bytes rs at bucket b r rest e in let k = f.here.key_is in let s = f.good.some in absurd (omega arith)

pub between-low : (bytes : List ℕ) (rs : List Record) (at : ℕ) → IsBucket bytes rs → IsBetween rs at → at ≤ 4096
between-low bytes rs at bucket b =
    let sum : size_of_all rs ≡ size_of_all b.before + size_of_all b.behind = ap size_of_all b.split ∙ size_of_all-append b.before b.behind in
    let at_is = b.at_is in
    let fits = bucket.fits in
    omega arith

pub one-further : (bytes : List ℕ) (rs : List Record) (at : ℕ) (b : IsBetween rs at) (f : IsFollowed bytes rs at b) (n : ℕ) → n ≡ size_of f.next → IsBetween rs (at + n)
one-further bytes rs at b f n size = record {
  before = b.before ++ f.next ∷ [];
  behind = f.rest;
  split = b.split ∙ ap (λ (xs : List Record). b.before ++ xs) f.is ∙ sym (append_assoc b.before (f.next ∷ []) f.rest);
  at_is = (let a = b.at_is in omega (arith, size_of_all-append b.before (f.next ∷ [])));
}

pub begin-between : (rs : List Record) → IsBetween rs 0
begin-between rs = record { before = []; behind = rs; split = refl; at_is = refl }

-- one record on
pub go-on : (bytes : List ℕ) (rs : List Record) (at key value size : ℕ) → IsBucket bytes rs → IsBetween rs at → key ≡ number_at 2 at bytes → value ≡ number_at 2 (at + 2) bytes → 1 ≤ key → size ≡ 4 + key + value → IsBetween rs (at + size)
go-on bytes rs at key value size bucket b key_is value_is some size_is =
    let f = next-of bytes rs at bucket b (omega arith) in
    let k = f.here.key_is in
    let v = f.here.value_is in
    one-further bytes rs at b f size (omega arith)

pub go-fits : (bytes : List ℕ) (rs : List Record) (at key value : ℕ) → IsBucket bytes rs → IsBetween rs at → key ≡ number_at 2 at bytes → value ≡ number_at 2 (at + 2) bytes → 1 ≤ key → at + 4 + key + value ≤ 4096
go-fits bytes rs at key value bucket b key_is value_is some =
    let f = next-of bytes rs at bucket b (omega arith) in
    let k = f.here.key_is in
    let v = f.here.value_is in
    let fits = f.fits in
    omega arith

pub at-end : (bytes : List ℕ) (rs : List Record) (at : ℕ) → IsBucket bytes rs → IsBetween rs at → number_at 2 at bytes ≡ 0 → at ≡ size_of_all rs
at-end bytes rs at bucket b none =
    b.at_is ∙ ap size_of_all (sym (append-nil b.before) ∙ ap (λ (xs : List Record). b.before ++ xs) (sym (end-here bytes rs at bucket b none)) ∙ sym b.split)

pub go-less : (bytes : List ℕ) (rs : List Record) (at key value size : ℕ) → IsBucket bytes rs → IsBetween rs at → key ≡ number_at 2 at bytes → value ≡ number_at 2 (at + 2) bytes → 1 ≤ key → size ≡ 4 + key + value → 4096 - (at + size) < 4096 - at
go-less bytes rs at key value size bucket b key_is value_is some size_is = let f = go-fits bytes rs at key value bucket b key_is value_is some in omega arith

-- ---- looking for a key

-- all records before are of lesser keys
pub record IsSearched (rs : List Record) (key : List ℕ) (at : ℕ) : Type 0 where
  pub between : IsBetween rs at
  pub skipped : below key between.before ≡ between.before
  pub none : lookup between.before key ≡ None

pub searched-none : (rs : List Record) (key : List ℕ) → IsSearched rs key 0
unfolding begin-between
searched-none rs key = record { between = begin-between rs; skipped = refl; none = refl }

key-at : (bytes text : List ℕ) (rs : List Record) (at n : ℕ) (b : IsBetween rs at) (f : IsFollowed bytes rs at b) → n ≡ number_at 2 at bytes → text ≡ window bytes (at + 4) n → text ≡ f.next.key
key-at bytes text rs at n b f e text_is =
    let k = f.here.key_is in
    text_is ∙ ap (λ (j : ℕ). window bytes (at + 4) j) (e ∙ k) ∙ f.here.key

pub searched-more : (bytes text : List ℕ) (rs : List Record) (key : List ℕ) (at n value size : ℕ) → IsBucket bytes rs → IsSearched rs key at → n ≡ number_at 2 at bytes → value ≡ number_at 2 (at + 2) bytes → text ≡ window bytes (at + 4) n → 1 ≤ n → size ≡ 4 + n + value
    → cmp text key ≡ Less → IsSearched rs key (at + size)
unfolding one-further
searched-more bytes text rs key at n value size bucket s n_is value_is text_is some size_is less =
    let b = s.between in
    let f = next-of bytes rs at bucket s.between (omega arith) in
    let k = f.here.key_is in
    let v = f.here.value_is in
    let lesser : cmp f.next.key key ≡ Less = ap (λ (xs : List ℕ). cmp xs key) (sym (key-at bytes text rs at n s.between f n_is text_is)) ∙ less in
    record {
      between = one-further bytes rs at s.between f size (omega arith);
      skipped = below-append key s.between.before (f.next ∷ []) ∙ ap (λ (xs : List Record). xs ++ below key (f.next ∷ [])) s.skipped ∙ ap (λ (xs : List Record). s.between.before ++ xs) (below-passes key f.next [] lesser);
      none = lookup-append key s.between.before (f.next ∷ []) s.none ∙ lookup-on key f.next [] Less lesser refl;
    }

-- the records behind decide
spot-by : (rs behind : List Record) (key : List ℕ) (at size : ℕ) → (s : IsSearched rs key at) → s.between.behind ≡ behind → below key behind ≡ [] → size ≡ size_with key (lookup behind key) → IsSpot rs key at size
spot-by rs behind key at size s e none size_is =
    let all : rs ≡ s.between.before ++ behind = s.between.split ∙ ap (λ (xs : List Record). s.between.before ++ xs) e in
    let lower : below key rs ≡ s.between.before =
    ap (below key) all ∙ below-append key s.between.before behind ∙ ap (λ (xs : List Record). xs ++ below key behind) s.skipped ∙ ap (λ (xs : List Record). s.between.before ++ xs) none ∙ append-nil s.between.before in
    let found : lookup rs key ≡ lookup behind key = ap (λ (xs : List Record). lookup xs key) all ∙ lookup-append key s.between.before behind s.none in
    record {
      at_is = s.between.at_is ∙ ap size_of_all (sym lower);
      size_is = size_is ∙ ap (size_with key) (sym found);
    }

pub spot-equal : (bytes text : List ℕ) (rs : List Record) (key : List ℕ) (at n value size : ℕ) → IsBucket bytes rs → IsSearched rs key at → n ≡ number_at 2 at bytes → value ≡ number_at 2 (at + 2) bytes → text ≡ window bytes (at + 4) n → 1 ≤ n → size ≡ 4 + n + value
    → cmp text key ≡ Equal → IsSpot rs key at size
spot-equal bytes text rs key at n value size bucket s n_is value_is text_is some size_is equal =
    let f = next-of bytes rs at bucket s.between (omega arith) in
    let k = f.here.key_is in
    let v = f.here.value_is in
    let tied : cmp f.next.key key ≡ Equal = ap (λ (xs : List ℕ). cmp xs key) (sym (key-at bytes text rs at n s.between f n_is text_is)) ∙ equal in
    let same : f.next.key ≡ key = equal-same f.next.key key tied in
    let length_is : length f.next.key ≡ length key = ap length same in
    let rest = all-behind key f.next.key f.rest f.rising (inr (sym same)) in
    spot-by rs (f.next ∷ f.rest) key at size s f.is (below-drops key f.next f.rest Equal tied refl ∙ rest.below_none)
    (let e : size ≡ 4 + length key + length f.next.value = omega arith in e ∙ ap (size_with key) (sym (lookup-here key f.next f.rest tied)))

pub spot-greater : (bytes text : List ℕ) (rs : List Record) (key : List ℕ) (at n : ℕ) → IsBucket bytes rs → IsSearched rs key at → n ≡ number_at 2 at bytes → text ≡ window bytes (at + 4) n → 1 ≤ n
    → cmp text key ≡ Greater → IsSpot rs key at 0
spot-greater bytes text rs key at n bucket s n_is text_is some greater =
    let f = next-of bytes rs at bucket s.between (omega arith) in
    let more : cmp f.next.key key ≡ Greater = ap (λ (xs : List ℕ). cmp xs key) (sym (key-at bytes text rs at n s.between f n_is text_is)) ∙ greater in
    let rest = all-behind key f.next.key f.rest f.rising (inl (greater-less f.next.key key more)) in
    spot-by rs (f.next ∷ f.rest) key at 0 s f.is (below-drops key f.next f.rest Greater more refl ∙ rest.below_none)
    (ap (size_with key) (sym (lookup-on key f.next f.rest Greater more refl ∙ rest.none)))

pub spot-end : (bytes : List ℕ) (rs : List Record) (key : List ℕ) (at : ℕ) → IsBucket bytes rs → IsSearched rs key at → number_at 2 at bytes ≡ 0 → IsSpot rs key at 0
spot-end bytes rs key at bucket s none = spot-by rs [] key at 0 s (end-here bytes rs at bucket s.between none) refl refl

-- ---- the value at a spot

pub value-at : (bytes : List ℕ) (rs : List Record) (key value : List ℕ) (at : ℕ) → IsBucket bytes rs → at ≡ size_of_all (below key rs) → lookup rs key ≡ Some value
    → (window bytes (at + 4 + length key) (length value) ≡ value) × (at + 4 + length key + length value ≤ 4096)
unfolding followed
value-at bytes rs key value at bucket at_is found =
    let r : Record = record { key = key; value = value } in
    let e : rs ≡ below key rs ++ (record { key = key; value = value } ∷ above key rs) = split key [] rs bucket.rising ∙ ap (λ (o : Option (List ℕ)). below key rs ++ (here key o ++ above key rs)) found in
    let b : IsBetween rs at = record { before = below key rs; behind = record { key = key; value = value } ∷ above key rs; split = e; at_is = at_is } in
    let f = followed bytes rs at bucket b (record { key = key; value = value }) (above key rs) refl in
    (f.here.value, (let fits = f.fits in omega arith))

-- what stands at the spot of a key that is there
pub record IsFound (bytes : List ℕ) (rs : List Record) (key : List ℕ) (at size : ℕ) : Type 0 where
  pub value : List ℕ
  pub is : lookup rs key ≡ Some value
  pub shows : window bytes (at + (4 + length key)) (size - (4 + length key)) ≡ value
  pub lengths : 4 + length key ≤ size
  pub fits : at + size ≤ 4096

pub found : (bytes : List ℕ) (rs : List Record) (key : List ℕ) (at size : ℕ) → IsBucket bytes rs → IsSpot rs key at size → size ≢ 0 → IsFound bytes rs key at size
found bytes rs key at size bucket spot some = by (lookup rs key) refl
  where
    by : (o : Option (List ℕ)) → lookup rs key ≡ o → IsFound bytes rs key at size
    by None e = absurd (some (spot.size_is ∙ ap (size_with key) e))
    by (Some value) e =
        let v = value-at bytes rs key value at bucket spot.at_is e in
        let size_is : size ≡ 4 + length key + length value = spot.size_is ∙ ap (size_with key) e in
        let from : at + 4 + length key ≡ at + (4 + length key) = omega arith in
        let count : length value ≡ size - (4 + length key) = omega arith in
        let fits : at + 4 + length key + length value ≤ 4096 = v.1 in
        record {
          value = value;
          is = e;
          shows = ap (λ (n : ℕ). window bytes n (size - (4 + length key))) (sym from) ∙ ap (λ (n : ℕ). window bytes (at + 4 + length key) n) (sym count) ∙ v.0;
          lengths = omega arith;
          fits = omega arith;
        }

pub not-found : (rs : List Record) (key : List ℕ) (at size : ℕ) → IsSpot rs key at size → size ≡ 0 → lookup rs key ≡ None
not-found rs key at size spot z = by (lookup rs key) refl
  where
    by : (o : Option (List ℕ)) → lookup rs key ≡ o → lookup rs key ≡ None
    by None e = e
    by (Some value) e = let size_is : size ≡ 4 + length key + length value = spot.size_is ∙ ap (size_with key) e in absurd (omega arith)
