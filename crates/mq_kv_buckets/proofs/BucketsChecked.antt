-- A block that is read record by record.
use Rattle.std.proofs.Common.{get_or, ◌≡◌, ◌≢◌, inl, inr, ℕ, ◌+◌, ◌-◌, ◌<◌, ◌≤◌, true, List, [], ◌∷◌, ◌++◌, length, drop, refl, sym, ap, subst, ◌∙◌, arith, append_assoc, length-append, length-drop}
use Rattle.std.specs.Prelude.{Result, Ok, Err, MatchResult}
use Rattle.std.proofs.lemmas.Bool.{cases_lt}
use Rattle.std.proofs.lemmas.List.{drop-drop, ext_get_or, get_or-drop}
use Rattle.mq_blocks.specs.Windows.{number_at}
use Rattle.mq_kv_buckets.specs.Buckets.{AreZeros, BeginWith, IsBucket, IsFirstBad, IsFormed, IsNext, bucket_bytes, bucket_size, last_key, padded, zero_bytes}
use Rattle.mq_kv_buckets.specs.Keys.{is_below}
use Rattle.mq_kv_buckets.specs.Records.{AreRising, IsRecord, Record, record_bytes, records_bytes, size_of, size_of_all}
use Rattle.mq_kv_buckets.proofs.BucketsNext.{key_length-at, number-past}
use Rattle.mq_kv_buckets.proofs.BucketsReading.{its-records}
use Rattle.mq_kv_buckets.proofs.BucketsWrong.{more-records_bytes, no-records_bytes}
use Rattle.mq_kv_buckets.proofs.RecordsBytes.{behind-record, length-record_bytes, length-zeros, records_bytes-append, size_of_all-append, zero-at}

pub rising-more : (last : List ℕ) (rs : List Record) (r : Record) → AreRising last rs → IsRecord r → is_below (last_key last rs) r.key ≡ true → AreRising last (rs ++ r ∷ [])
rising-more last [] r rise good low = (good, low, tt)
rising-more last (s ∷ rs) r rise good low = (rise.0, rise.1, rising-more s.key rs r rise.2 good low)

pub last_key-more : (last : List ℕ) (rs : List Record) (r : Record) → last_key last (rs ++ r ∷ []) ≡ r.key
last_key-more last [] r = refl
last_key-more last (s ∷ rs) r = last_key-more s.key rs r

pub bytes-more : (rs : List Record) (r : Record) (rest : List ℕ) → records_bytes (rs ++ r ∷ []) ++ rest ≡ records_bytes rs ++ (record_bytes r ++ rest)
bytes-more rs r rest =
    ap (λ (xs : List ℕ). xs ++ rest) (records_bytes-append rs (r ∷ []))
    ∙ append_assoc (records_bytes rs) (records_bytes (r ∷ [])) rest
    ∙ ap (λ (xs : List ℕ). records_bytes rs ++ xs) (more-records_bytes r [] rest ∙ ap (λ (xs : List ℕ). record_bytes r ++ xs) (no-records_bytes rest))

-- the records up to here are good, and the last of them has this key
pub record IsRead (bytes last : List ℕ) (at : ℕ) : Type 0 where
  pub records : List Record
  pub rising : AreRising [] records
  pub is : bytes ≡ records_bytes records ++ drop at bytes
  pub at_is : at ≡ size_of_all records
  pub last_is : last ≡ last_key [] records
  pub low : at ≤ 4096

pub read-none : (bytes : List ℕ) → IsRead bytes [] 0
read-none bytes = record { records = []; rising = tt; is = sym (no-records_bytes bytes); at_is = refl; last_is = refl; low = omega arith }

pub read-more : (bytes last key : List ℕ) (at size : ℕ) → length bytes ≡ 4096 → IsRead bytes last at → IsNext last (drop at bytes) key size → IsRead bytes key (at + size)
read-more bytes last key at size whole read next =
    let r : Record = next.next in
    let rest : List ℕ = next.begins.2 in
    let e : drop at bytes ≡ record_bytes next.next ++ next.begins.2 = next.begins.3 in
    let size_is = next.size_is in
    let at_is = read.at_is in
    let behind : drop (at + size) bytes ≡ next.begins.2 =
    sym (drop-drop size at bytes) ∙ ap (λ (xs : List ℕ). drop size xs) e ∙ ap (λ (n : ℕ). drop n (record_bytes next.next ++ next.begins.2)) size_is ∙ behind-record next.next next.begins.2 in
    let left : length bytes - at ≡ size_of next.next + length next.begins.2 =
    sym (length-drop at bytes) ∙ ap length e ∙ length-append (record_bytes next.next) next.begins.2 ∙ ap (λ (n : ℕ). n + length next.begins.2) (length-record_bytes next.next) in
    let P : List ℕ → Type 0 = λ k. is_below k next.next.key ≡ true in
    record {
      records = read.records ++ next.next ∷ [];
      rising = rising-more [] read.records next.next read.rising next.begins.0 (subst P read.last_is next.begins.1);
      is = read.is ∙ ap (λ (xs : List ℕ). records_bytes read.records ++ xs) e ∙ sym (bytes-more read.records next.next next.begins.2) ∙ ap (λ (xs : List ℕ). records_bytes (read.records ++ next.next ∷ []) ++ xs) (sym behind);
      at_is = omega (arith, size_of_all-append read.records (next.next ∷ []));
      last_is = next.key_is ∙ sym (last_key-more [] read.records next.next);
      low = omega arith;
    }

pub read-less : (bytes last key : List ℕ) (at size : ℕ) → length bytes ≡ 4096 → IsRead bytes last at → IsNext last (drop at bytes) key size → 4096 - (at + size) < 4096 - at
read-less bytes last key at size whole read next =
    let low : at + size ≤ 4096 = (read-more bytes last key at size whole read next).low in
    let some : size ≡ 4 + length next.next.key + length next.next.value = next.size_is in
    omega arith

pub read-fits : (bytes last key : List ℕ) (at size : ℕ) → length bytes ≡ 4096 → IsRead bytes last at → IsNext last (drop at bytes) key size → at + size ≤ 4096
read-fits bytes last key at size whole read next = (read-more bytes last key at size whole read next).low

pub bad-here : (bytes last : List ℕ) (at : ℕ) → length bytes ≡ 4096 → IsRead bytes last at → 1 ≤ number_at 2 at bytes → ((r : Record) → BeginWith last (drop at bytes) r → ⊥) → IsFirstBad bytes at
bad-here bytes last at whole read some none =
    let at_is = read.at_is in
    let within : at < length bytes = elim (cases_lt at (length bytes)) [
      | inl low ↦ low
      | inr past ↦ (let z = number-past at bytes past in absurd (omega arith))
    ] in
    let P : List ℕ → Type 0 = λ k. (r : Record) → BeginWith k (drop at bytes) r → ⊥ in
    record {
      records = read.records;
      rest = drop at bytes;
      rising = read.rising;
      is = read.is;
      within = within;
      behind = omega arith;
      bad = inl (read.at_is, record { begins = (let k = key_length-at at bytes in omega arith); none = subst P read.last_is none });
    }

pub zeros-are : (bytes : List ℕ) (at : ℕ) → length bytes ≡ 4096 → AreZeros bytes at 4096 → drop at bytes ≡ zero_bytes (4096 - at)
zeros-are bytes at whole zeros =
    let l : length (drop at bytes) ≡ length (zero_bytes (4096 - at)) = length-drop at bytes ∙ ap (λ (n : ℕ). n - at) whole ∙ sym (length-zeros (4096 - at)) in
    ext_get_or 0 (drop at bytes) (zero_bytes (4096 - at)) l (λ k low.
    let inside : at + k < 4096 = omega (arith, length-drop at bytes) in
    get_or-drop at bytes k 0 ∙ zeros (at + k) (omega arith) inside ∙ sym (zero-at (4096 - at) k))

pub formed : (bytes : List ℕ) (rs : List Record) → IsBucket bytes rs → IsFormed bytes
formed bytes rs b = let P : List Record → Type 0 = λ xs. IsBucket bytes xs in subst P (sym (its-records bytes rs b)) b

formed-here : (bytes last : List ℕ) (at : ℕ) → length bytes ≡ 4096 → IsRead bytes last at → AreZeros bytes at 4096 → IsFormed bytes
unfolding bucket_bytes padded
formed-here bytes last at whole read zeros =
    let low = read.low in
    let e : 4096 - at ≡ bucket_size - size_of_all read.records = ap (λ (n : ℕ). 4096 - n) read.at_is in
    formed bytes read.records (record {
      rising = read.rising;
      fits = (let f = read.at_is in omega arith);
      is = read.is ∙ ap (λ (xs : List ℕ). records_bytes read.records ++ xs) (zeros-are bytes at whole zeros ∙ ap zero_bytes e);
    })

bad-byte : (bytes last : List ℕ) (at k : ℕ) → length bytes ≡ 4096 → IsRead bytes last at → number_at 2 at bytes ≡ 0 → at ≤ k → k < 4096 → AreZeros bytes at k → get_or bytes k 0 ≢ 0 → IsFirstBad bytes k
bad-byte bytes last at k whole read none from low zeros here =
    let at_is = read.at_is in
    let there : at + (k - size_of_all read.records) ≡ k = omega arith in
    record {
      records = read.records;
      rest = drop at bytes;
      rising = read.rising;
      is = read.is;
      within = omega arith;
      behind = omega arith;
      bad = inr (record {
        ends = key_length-at at bytes ∙ none;
        zeros = λ j less. get_or-drop at bytes j 0 ∙ zeros (at + j) (omega arith) (omega arith);
        here = λ z. here (ap (λ (n : ℕ). get_or bytes n 0) (sym there) ∙ sym (get_or-drop at bytes (k - size_of_all read.records) 0) ∙ z);
      });
    }

pub checked : {X : Type 0} (bytes last : List ℕ) (at : ℕ) (r : Result X ℕ) → length bytes ≡ 4096 → IsRead bytes last at → number_at 2 at bytes ≡ 0
    → MatchResult r (λ _. AreZeros bytes at 4096) (λ k. (at ≤ k) × (k < 4096) × AreZeros bytes at k × (get_or bytes k 0 ≢ 0))
    → MatchResult r (λ _. IsFormed bytes) (λ k. IsFirstBad bytes k)
checked bytes last at (Ok x) whole read none zeros = formed-here bytes last at whole read zeros
checked bytes last at (Err k) whole read none b = bad-byte bytes last at k whole read none b.0 b.1 b.2 b.3
