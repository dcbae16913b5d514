-- The bytes of records, and what is read of them.
use Rattle.std.proofs.Common.{get_or, ◌≡◌, ℕ, zero, suc, ◌+◌, ◌≤◌, List, [], ◌∷◌, ◌++◌, length, take, drop, refl, sym, ap, ◌∙◌, arith, append_assoc, length-append}
use Rattle.std.specs.Int.{to_le_bytes, w16}
use Rattle.std.proofs.lemmas.List.{drop-drop, drop_at, take_at}
use Rattle.byteorder.specs.Numbers.{little_number-reads_back}
use Rattle.mq_blocks.specs.Windows.{number_at, window}
use Rattle.mq_kv_buckets.specs.Buckets.{key_length, record_in, value_length, zero_bytes}
use Rattle.mq_kv_buckets.specs.Records.{IsRecord, Record, record_bytes, records_bytes, size_of, size_of_all}

pub length-record_bytes : (r : Record) → length (record_bytes r) ≡ size_of r
unfolding record_bytes
length-record_bytes r = omega (arith, length-append r.key r.value)

pub length-records_bytes : (rs : List Record) → length (records_bytes rs) ≡ size_of_all rs
unfolding records_bytes
length-records_bytes [] = refl
length-records_bytes (r ∷ rs) = omega (arith, length-append (record_bytes r) (records_bytes rs), length-record_bytes r, length-records_bytes rs)

pub records_bytes-append : (rs ss : List Record) → records_bytes (rs ++ ss) ≡ records_bytes rs ++ records_bytes ss
unfolding records_bytes
records_bytes-append [] ss = refl
records_bytes-append (r ∷ rs) ss = ap (λ (xs : List ℕ). record_bytes r ++ xs) (records_bytes-append rs ss) ∙ sym (append_assoc (record_bytes r) (records_bytes rs) (records_bytes ss))

pub size_of_all-append : (rs ss : List Record) → size_of_all (rs ++ ss) ≡ size_of_all rs + size_of_all ss
size_of_all-append [] ss = omega arith
size_of_all-append (r ∷ rs) ss = omega (arith, size_of_all-append rs ss)

-- each record has a byte
pub few-records : (rs : List Record) → length rs ≤ size_of_all rs
few-records [] = omega arith
few-records (r ∷ rs) = omega (arith, few-records rs)

-- ---- what is read of a record

pub key_length-read : (r : Record) (rest : List ℕ) → IsRecord r → key_length (record_bytes r ++ rest) ≡ length r.key
unfolding number_at record_bytes
key_length-read r rest good =
    little_number-reads_back 2 (length r.key) (to_le_bytes w16 (length r.value) ++ ((r.key ++ r.value) ++ rest)) (let f = good.key_fits in omega arith)

pub value_length-read : (r : Record) (rest : List ℕ) → IsRecord r → value_length (record_bytes r ++ rest) ≡ length r.value
unfolding number_at record_bytes
value_length-read r rest good =
    little_number-reads_back 2 (length r.value) ((r.key ++ r.value) ++ rest) (let f = good.value_fits in omega arith)

behind-lengths : (r : Record) (rest : List ℕ) → drop 4 (record_bytes r ++ rest) ≡ r.key ++ (r.value ++ rest)
unfolding record_bytes
behind-lengths r rest = append_assoc r.key r.value rest

pub behind-key : (r : Record) (rest : List ℕ) → drop (4 + length r.key) (record_bytes r ++ rest) ≡ r.value ++ rest
behind-key r rest =
    sym (drop-drop (length r.key) 4 (record_bytes r ++ rest))
    ∙ ap (λ (xs : List ℕ). drop (length r.key) xs) (behind-lengths r rest)
    ∙ drop_at r.key (r.value ++ rest) (length r.key) refl

pub behind-record : (r : Record) (rest : List ℕ) → drop (size_of r) (record_bytes r ++ rest) ≡ rest
behind-record r rest = drop_at (record_bytes r) rest (size_of r) (length-record_bytes r)

pub key-read : (r : Record) (rest : List ℕ) → window (record_bytes r ++ rest) 4 (length r.key) ≡ r.key
key-read r rest =
    ap (λ (xs : List ℕ). take (length r.key) xs) (behind-lengths r rest) ∙ take_at r.key (r.value ++ rest) (length r.key) refl

pub value-read : (r : Record) (rest : List ℕ) → window (record_bytes r ++ rest) (4 + length r.key) (length r.value) ≡ r.value
value-read r rest =
    ap (λ (xs : List ℕ). take (length r.value) xs) (behind-key r rest) ∙ take_at r.value rest (length r.value) refl

-- a record is what is read of its bytes
pub record-read : (r : Record) (rest : List ℕ) → IsRecord r → record_in (record_bytes r ++ rest) ≡ r
record-read r rest good =
    let k = key_length-read r rest good in
    let v = value_length-read r rest good in
    rw (k, v, key-read r rest, value-read r rest) refl

-- two records with the same bytes, and whatever is behind them, are the same
pub one-record : (r s : Record) (xs ys : List ℕ) → IsRecord r → IsRecord s → record_bytes r ++ xs ≡ record_bytes s ++ ys → (r ≡ s) × (xs ≡ ys)
one-record r s xs ys good fine e =
    let same : r ≡ s = sym (record-read r xs good) ∙ ap record_in e ∙ record-read s ys fine in
    let size : size_of r ≡ size_of s = ap size_of same in
    let rest : xs ≡ ys =
    sym (behind-record r xs) ∙ ap (λ (zs : List ℕ). drop (size_of r) zs) e ∙ ap (λ (n : ℕ). drop n (record_bytes s ++ ys)) size ∙ behind-record s ys in
    (same, rest)

-- ---- zeros

pub length-zeros : (n : ℕ) → length (zero_bytes n) ≡ n
length-zeros zero = refl
length-zeros (suc n) = ap (λ (k : ℕ). suc k) (length-zeros n)

pub zero-at : (n k : ℕ) → get_or (zero_bytes n) k 0 ≡ 0
zero-at zero k = refl
zero-at (suc n) zero = refl
zero-at (suc n) (suc k) = zero-at n k

pub no-key_length : (n : ℕ) → key_length (zero_bytes n) ≡ 0
unfolding number_at
no-key_length n = omega (arith, zero-at n 0, zero-at n 1)
