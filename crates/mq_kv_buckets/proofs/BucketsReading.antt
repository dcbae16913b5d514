-- The records of a bucket are those that it was made of.
use Rattle.std.proofs.Common.{◌≡◌, ℕ, zero, suc, ◌+◌, ◌-◌, ◌≤◌, Bool, false, cond, nat_eq, List, [], ◌∷◌, ◌++◌, length, drop, refl, ap, ◌∙◌, arith, append_assoc, length-append}
use Rattle.std.proofs.lemmas.Bool.{eq-eqb, ne_eqb}
use Rattle.mq_kv_buckets.specs.Buckets.{IsBucket, bucket_bytes, bucket_size, key_length, padded, record_in, records_in, records_of, value_length, zero_bytes}
use Rattle.mq_kv_buckets.specs.Records.{AreRising, IsRecord, Record, record_bytes, records_bytes, size_of, size_of_all}
use Rattle.mq_kv_buckets.proofs.RecordsBytes.{behind-record, few-records, key_length-read, length-records_bytes, length-zeros, no-key_length, record-read, value_length-read}

pub padded-none : (n : ℕ) → padded [] n ≡ zero_bytes n
unfolding padded records_bytes
padded-none n = refl

pub padded-more : (r : Record) (rs : List Record) (n : ℕ) → padded (r ∷ rs) n ≡ record_bytes r ++ padded rs n
unfolding padded records_bytes
padded-more r rs n = append_assoc (record_bytes r) (records_bytes rs) (zero_bytes n)

pub length-padded : (rs : List Record) (n : ℕ) → length (padded rs n) ≡ size_of_all rs + n
unfolding padded
length-padded rs n = omega (arith, length-append (records_bytes rs) (zero_bytes n), length-records_bytes rs, length-zeros n)

pub length-bucket_bytes : (rs : List Record) → size_of_all rs ≤ bucket_size → length (bucket_bytes rs) ≡ bucket_size
unfolding bucket_bytes
length-bucket_bytes rs fits = omega (arith, length-padded rs (bucket_size - size_of_all rs))

nothing-in : (count : ℕ) (bytes : List ℕ) → key_length bytes ≡ 0 → records_in count bytes ≡ []
unfolding records_in
nothing-in zero bytes e = refl
nothing-in (suc count) bytes e = ap (λ (t : Bool). cond t [] (record_in bytes ∷ records_in count (drop (4 + key_length bytes + value_length bytes) bytes))) (eq-eqb (key_length bytes) 0 e)

one-more-in : (count : ℕ) (r : Record) (rest : List ℕ) → IsRecord r → records_in (suc count) (record_bytes r ++ rest) ≡ r ∷ records_in count rest
unfolding records_in
one-more-in count r rest good =
    let bytes = record_bytes r ++ rest in
    let k : key_length (record_bytes r ++ rest) ≡ length r.key = key_length-read r rest good in
    let v : value_length (record_bytes r ++ rest) ≡ length r.value = value_length-read r rest good in
    let some : nat_eq (key_length (record_bytes r ++ rest)) 0 ≡ false = ne_eqb _ _ (λ z. absurd (let s = good.some in omega (arith, z, k))) in
    let size : 4 + key_length (record_bytes r ++ rest) + value_length (record_bytes r ++ rest) ≡ size_of r = omega arith in
    ap (λ (t : Bool). cond t [] (record_in (record_bytes r ++ rest) ∷ records_in count (drop (4 + key_length (record_bytes r ++ rest) + value_length (record_bytes r ++ rest)) (record_bytes r ++ rest)))) some
    ∙ ap (λ (s : Record). s ∷ records_in count (drop (4 + key_length (record_bytes r ++ rest) + value_length (record_bytes r ++ rest)) (record_bytes r ++ rest))) (record-read r rest good)
    ∙ ap (λ (n : ℕ). r ∷ records_in count (drop n (record_bytes r ++ rest))) size
    ∙ ap (λ (xs : List ℕ). r ∷ records_in count xs) (behind-record r rest)

pub records_in-padded : (count : ℕ) (last : List ℕ) (rs : List Record) (n : ℕ) → AreRising last rs → length rs ≤ count → records_in count (padded rs n) ≡ rs
records_in-padded count last [] n rise few = nothing-in count (padded [] n) (ap key_length (padded-none n) ∙ no-key_length n)
records_in-padded zero last (r ∷ rs) n rise few = absurd (omega arith)
records_in-padded (suc count) last (r ∷ rs) n rise few =
    ap (records_in (suc count)) (padded-more r rs n)
    ∙ one-more-in count r (padded rs n) rise.0
    ∙ ap (λ (xs : List Record). r ∷ xs) (records_in-padded count r.key rs n rise.2 (omega arith))

pub its-records : (bytes : List ℕ) (rs : List Record) → IsBucket bytes rs → records_of bytes ≡ rs
unfolding bucket_bytes
its-records bytes rs b =
    let fits = b.fits in
    let whole : length bytes ≡ bucket_size = ap length b.is ∙ length-bucket_bytes rs b.fits in
    let few : length rs ≤ length bytes = omega (arith, few-records rs) in
    ap (records_in (length bytes)) b.is ∙ records_in-padded (length bytes) [] rs (bucket_size - size_of_all rs) b.rising few
