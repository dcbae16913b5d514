-- What is wrong first in bytes that are not a bucket.
use Rattle.std.proofs.Common.{get_or, ◌≡◌, ◌⊎◌, inl, inr, ℕ, ◌-◌, ◌≤◌, true, List, [], ◌∷◌, ◌++◌, length, refl, sym, ap, subst, ◌∙◌, arith, append_assoc}
use Rattle.std.proofs.lemmas.Bool.{cases_order}
use Rattle.mq_kv_buckets.specs.Buckets.{IsBadByte, IsBadRecord, IsBucket, IsFirstBad, bucket_bytes, bucket_size, key_length, last_key, padded, zero_bytes}
use Rattle.mq_kv_buckets.specs.Keys.{is_below}
use Rattle.mq_kv_buckets.specs.Records.{AreRising, IsRecord, Record, record_bytes, records_bytes, size_of, size_of_all}
use Rattle.mq_kv_buckets.proofs.RecordsBytes.{key_length-read, no-key_length, one-record, zero-at}
use Rattle.mq_kv_buckets.proofs.BucketsReading.{padded-more, padded-none}

pub no-records_bytes : (rest : List ℕ) → records_bytes [] ++ rest ≡ rest
unfolding records_bytes
no-records_bytes rest = refl

pub more-records_bytes : (r : Record) (rs : List Record) (rest : List ℕ) → records_bytes (r ∷ rs) ++ rest ≡ record_bytes r ++ (records_bytes rs ++ rest)
unfolding records_bytes
more-records_bytes r rs rest = append_assoc (record_bytes r) (records_bytes rs) rest

-- what is wrong behind these records, k bytes from where they begin
abbrev IsBad : List ℕ → List Record → List ℕ → ℕ → Type 0
IsBad last rs rest k = ((k ≡ size_of_all rs) × IsBadRecord (last_key last rs) rest) ⊎ IsBadByte rest (k - size_of_all rs)

bad-tail : (last : List ℕ) (r : Record) (rs : List Record) (rest : List ℕ) (k : ℕ) → size_of_all (r ∷ rs) ≤ k → IsBad last (r ∷ rs) rest k → IsBad r.key rs rest (k - size_of r)
bad-tail last r rs rest k low (inl b) = let e = b.0 in inl (omega arith, b.1)
bad-tail last r rs rest k low (inr b) =
    let e : k - size_of_all (r ∷ rs) ≡ k - size_of r - size_of_all rs = omega arith in
    let P : ℕ → Type 0 = λ n. IsBadByte rest n in inr (subst P e b)

-- no record begins with zeros
zeros-begin-none : (n : ℕ) (r : Record) (rest : List ℕ) → IsRecord r → zero_bytes n ≡ record_bytes r ++ rest → ⊥
zeros-begin-none n r rest good e =
    let some = good.some in
    let k : length r.key ≡ 0 = sym (key_length-read r rest good) ∙ ap key_length (sym e) ∙ no-key_length n in
    absurd (omega arith)

-- nothing is bad where a record begins that may stand there
begun : (last : List ℕ) (r : Record) (rest bytes : List ℕ) (k : ℕ) → IsRecord r → is_below last r.key ≡ true → bytes ≡ record_bytes r ++ rest → IsBad last [] bytes k → ⊥
begun last r rest bytes k good low e (inl b) = b.1.none r (good, low, rest, e)
begun last r rest bytes k good low e (inr b) =
    let some = good.some in
    let z : length r.key ≡ 0 = sym (key_length-read r rest good) ∙ ap key_length (sym e) ∙ b.ends in
    absurd (omega arith)

no-bad-zeros : (last : List ℕ) (n k : ℕ) (rest : List ℕ) → zero_bytes n ≡ rest → IsBad last [] rest k → ⊥
no-bad-zeros last n k rest e (inl b) = let begins = b.1.begins in let z : key_length rest ≡ 0 = ap key_length (sym e) ∙ no-key_length n in absurd (omega arith)
no-bad-zeros last n k rest e (inr b) = b.here (ap (λ (xs : List ℕ). get_or xs (k - size_of_all []) 0) (sym e) ∙ zero-at n (k - size_of_all []))

no-bad : (last : List ℕ) (ss : List Record) (n : ℕ) (rs : List Record) (rest : List ℕ) (k : ℕ) → AreRising last ss → AreRising last rs → size_of_all rs ≤ k → padded ss n ≡ records_bytes rs ++ rest → IsBad last rs rest k → ⊥
no-bad last [] n [] rest k us up low e bad = no-bad-zeros last n k rest (sym (padded-none n) ∙ e ∙ no-records_bytes rest) bad
no-bad last (s ∷ ss) n [] rest k us up low e bad =
    begun last s (padded ss n) rest k us.0 us.1 (sym (no-records_bytes rest) ∙ sym e ∙ padded-more s ss n) bad
no-bad last [] n (r ∷ rs) rest k us up low e bad =
    zeros-begin-none n r (records_bytes rs ++ rest) up.0 (sym (padded-none n) ∙ e ∙ more-records_bytes r rs rest)
no-bad last (s ∷ ss) n (r ∷ rs) rest k us up low e bad =
    let one = one-record s r (padded ss n) (records_bytes rs ++ rest) us.0 up.0 (sym (padded-more s ss n) ∙ e ∙ more-records_bytes r rs rest) in
    let P : List ℕ → Type 0 = λ x. AreRising x ss in
    no-bad r.key ss n rs rest (k - size_of r) (subst P (ap (λ (x : Record). x.key) one.0) us.2) up.2 (omega arith) one.1 (bad-tail last r rs rest k low bad)

pub never-bad : (bytes : List ℕ) (rs : List Record) (offset : ℕ) → IsBucket bytes rs → IsFirstBad bytes offset → ⊥
unfolding bucket_bytes
never-bad bytes rs offset b f = no-bad [] rs (bucket_size - size_of_all rs) f.records f.rest offset b.rising f.rising f.behind (sym b.is ∙ f.is) f.bad

-- ---- one offset

first-byte : (rest : List ℕ) (j k : ℕ) → IsBadByte rest j → IsBadByte rest k → j ≡ k
first-byte rest j k a b = elim (cases_order j k) [
  | inl same ↦ same
  | inr other ↦ elim other [
    | inl less ↦ absurd (a.here (b.zeros j less))
    | inr more ↦ absurd (b.here (a.zeros k more))
  ]
]

one-here : (last : List ℕ) (rest : List ℕ) (j k : ℕ) → IsBad last [] rest j → IsBad last [] rest k → j ≡ k
one-here last rest j k (inl a) (inl b) = let e = a.0 in let f = b.0 in omega arith
one-here last rest j k (inl a) (inr b) = let e = a.1.begins in let f = b.ends in absurd (omega arith)
one-here last rest j k (inr a) (inl b) = let e = b.1.begins in let f = a.ends in absurd (omega arith)
one-here last rest j k (inr a) (inr b) = let e = first-byte rest (j - size_of_all []) (k - size_of_all []) a b in omega arith

one-bad : (last : List ℕ) (rs ss : List Record) (rest tail : List ℕ) (j k : ℕ) → AreRising last rs → AreRising last ss → size_of_all rs ≤ j → size_of_all ss ≤ k → records_bytes rs ++ rest ≡ records_bytes ss ++ tail → IsBad last rs rest j → IsBad last ss tail k → j ≡ k
one-bad last [] [] rest tail j k up us low high e a b =
    let same : tail ≡ rest = sym (no-records_bytes tail) ∙ sym e ∙ no-records_bytes rest in
    let P : List ℕ → Type 0 = λ xs. IsBad last [] xs k in
    one-here last rest j k a (subst P same b)
one-bad last [] (s ∷ ss) rest tail j k up us low high e a b =
    absurd (begun last s (records_bytes ss ++ tail) rest j us.0 us.1 (sym (no-records_bytes rest) ∙ e ∙ more-records_bytes s ss tail) a)
one-bad last (r ∷ rs) [] rest tail j k up us low high e a b =
    absurd (begun last r (records_bytes rs ++ rest) tail k up.0 up.1 (sym (no-records_bytes tail) ∙ sym e ∙ more-records_bytes r rs rest) b)
one-bad last (r ∷ rs) (s ∷ ss) rest tail j k up us low high e a b =
    let one = one-record r s (records_bytes rs ++ rest) (records_bytes ss ++ tail) up.0 us.0 (sym (more-records_bytes r rs rest) ∙ e ∙ more-records_bytes s ss tail) in
    let size : size_of r ≡ size_of s = ap size_of one.0 in
    let P : List ℕ → Type 0 = λ x. AreRising x rs in
    let Q : List ℕ → Type 0 = λ x. IsBad x rs rest (j - size_of r) in
    let key : r.key ≡ s.key = ap (λ (x : Record). x.key) one.0 in
    let less : j - size_of r ≡ k - size_of s =
    one-bad s.key rs ss rest tail (j - size_of r) (k - size_of s) (subst P key up.2) us.2 (omega arith) (omega arith) one.1 (subst Q key (bad-tail last r rs rest j low a)) (bad-tail last s ss tail k high b) in
    omega arith

pub only-bad : (bytes : List ℕ) (first second : ℕ) → IsFirstBad bytes first → IsFirstBad bytes second → first ≡ second
only-bad bytes first second a b = one-bad [] a.records b.records a.rest b.rest first second a.rising b.rising a.behind b.behind (sym a.is ∙ b.is) a.bad b.bad
