-- What is read where a record begins.
use Rattle.std.proofs.Common.{get_or, ◌≡◌, ℕ, add-zero, ◌+◌, ◌-◌, ◌<◌, ◌≤◌, true, List, ◌++◌, length, take, drop, refl, sym, ap, subst, ◌∙◌, arith, append_assoc, length-append, length-take, length-drop}
use Rattle.std.specs.Int.{to_le_bytes, w16}
use Rattle.std.proofs.lemmas.List.{drop-drop, get_or-drop, get_or_past, length-take-le, places, same_lists, take-append-drop}
use Rattle.mq_blocks.specs.Windows.{number_at, window}
use Rattle.mq_blocks.proofs.WindowsReadings.{bytes-number_at_2, number_at-drop}
use Rattle.mq_kv_buckets.specs.Buckets.{BeginWith, IsNext, key_length, record_in, value_length}
use Rattle.mq_kv_buckets.specs.Keys.{is_below}
use Rattle.mq_kv_buckets.specs.Records.{IsRecord, Record, record_bytes, size_of}
use Rattle.mq_kv_buckets.proofs.RecordsBytes.{key-read, key_length-read, length-record_bytes, value_length-read}

-- ---- lengths

pub number-last : (at : ℕ) (bytes : List ℕ) → length bytes < at + 2 → number_at 2 at bytes ≡ get_or bytes at 0
unfolding number_at
number-last at bytes past =
    let first : get_or (drop at bytes) 0 0 ≡ get_or bytes at 0 = get_or-drop at bytes 0 0 ∙ ap (λ (k : ℕ). get_or bytes k 0) (add-zero at) in
    let second : get_or (drop at bytes) 1 0 ≡ 0 = get_or-drop at bytes 1 0 ∙ get_or_past bytes (at + 1) 0 (omega arith) in
    omega arith

pub number-past : (at : ℕ) (bytes : List ℕ) → length bytes ≤ at → number_at 2 at bytes ≡ 0
number-past at bytes past = number-last at bytes (omega arith) ∙ get_or_past bytes at 0 past

pub key_length-at : (at : ℕ) (bytes : List ℕ) → key_length (drop at bytes) ≡ number_at 2 at bytes
key_length-at at bytes = number_at-drop 2 0 at bytes ∙ ap (λ (k : ℕ). number_at 2 k bytes) (add-zero at)

pub value_length-at : (at : ℕ) (bytes : List ℕ) → value_length (drop at bytes) ≡ number_at 2 (at + 2) bytes
value_length-at at bytes = number_at-drop 2 2 at bytes

pub window-at : (at n : ℕ) (bytes : List ℕ) → window bytes (at + 4) n ≡ window (drop at bytes) 4 n
window-at at n bytes = ap (λ (xs : List ℕ). take n xs) (sym (drop-drop 4 at bytes))

-- ---- a record that begins

pub record IsBegun (bytes : List ℕ) (r : Record) : Type 0 where
  pub key_is : key_length bytes ≡ length r.key
  pub value_is : value_length bytes ≡ length r.value
  pub text : window bytes 4 (length r.key) ≡ r.key
  pub fits : size_of r ≤ length bytes

pub begun-read : (bytes rest : List ℕ) (r : Record) → IsRecord r → bytes ≡ record_bytes r ++ rest → IsBegun bytes r
begun-read bytes rest r good e = record {
  key_is = ap key_length e ∙ key_length-read r rest good;
  value_is = ap value_length e ∙ value_length-read r rest good;
  text = ap (λ (xs : List ℕ). window xs 4 (length r.key)) e ∙ key-read r rest;
  fits = (let l : length bytes ≡ length (record_bytes r) + length rest = ap length e ∙ length-append (record_bytes r) rest in omega (arith, length-record_bytes r));
}

-- the lengths are not those of a good record
pub bad-lengths : (last bytes : List ℕ) → ((key_length bytes ≤ 255) × (value_length bytes ≤ 1024) × (4 + key_length bytes + value_length bytes ≤ length bytes) → ⊥) → (r : Record) → BeginWith last bytes r → ⊥
bad-lengths last bytes refuses r b =
    let is = begun-read bytes b.2 r b.0 b.3 in
    let good = b.0 in
    refuses (omega arith, omega arith, omega arith)

-- the key is not above the last one
pub bad-key : (last bytes : List ℕ) → (is_below last (window bytes 4 (key_length bytes)) ≡ true → ⊥) → (r : Record) → BeginWith last bytes r → ⊥
bad-key last bytes refuses r b =
    let is = begun-read bytes b.2 r b.0 b.3 in
    let same : window bytes 4 (key_length bytes) ≡ r.key = ap (λ (n : ℕ). window bytes 4 n) is.key_is ∙ is.text in
    refuses (ap (λ (k : List ℕ). is_below last k) same ∙ b.1)

-- ---- a record that is read

take-add : (m n : ℕ) (xs : List ℕ) → take (m + n) xs ≡ take m xs ++ take n (drop m xs)
take-add m n xs = same_lists _ _ (simp (length-append, length-take, length-drop) (omega arith)) (λ k d l. grind (arith, places))

-- the bytes of the record that is read are those that were read
pub record-written : (xs : List ℕ) → ((k : ℕ) → get_or xs k 0 < 256) → 4 + key_length xs + value_length xs ≤ length xs → xs ≡ record_bytes (record_in xs) ++ drop (4 + key_length xs + value_length xs) xs
unfolding record_bytes
record-written xs small fits =
    let key : List ℕ = window xs 4 (key_length xs) in
    let value : List ℕ = window xs (4 + key_length xs) (value_length xs) in
    let key_size : length (window xs 4 (key_length xs)) ≡ key_length xs = length-take-le (key_length xs) (drop 4 xs) (omega (arith, length-drop 4 xs)) in
    let value_size : length (window xs (4 + key_length xs) (value_length xs)) ≡ value_length xs = length-take-le (value_length xs) (drop (4 + key_length xs) xs) (omega (arith, length-drop (4 + key_length xs) xs)) in
    let first : take 2 xs ≡ to_le_bytes w16 (length (window xs 4 (key_length xs))) = sym (ap (λ (n : ℕ). to_le_bytes w16 n) key_size ∙ bytes-number_at_2 0 xs (omega arith) small) in
    let second : take 2 (drop 2 xs) ≡ to_le_bytes w16 (length (window xs (4 + key_length xs) (value_length xs))) = sym (ap (λ (n : ℕ). to_le_bytes w16 n) value_size ∙ bytes-number_at_2 2 xs (omega arith) small) in
    let lengths : take 4 xs ≡ take 2 xs ++ take 2 (drop 2 xs) = take-add 2 2 xs in
    let front : take (4 + key_length xs) xs ≡ take 4 xs ++ window xs 4 (key_length xs) = take-add 4 (key_length xs) xs in
    let all : take (4 + key_length xs + value_length xs) xs ≡ take (4 + key_length xs) xs ++ window xs (4 + key_length xs) (value_length xs) = take-add (4 + key_length xs) (value_length xs) xs in
    let whole : take (4 + key_length xs + value_length xs) xs ≡ to_le_bytes w16 (length (window xs 4 (key_length xs))) ++ (to_le_bytes w16 (length (window xs (4 + key_length xs) (value_length xs))) ++ (window xs 4 (key_length xs) ++ window xs (4 + key_length xs) (value_length xs))) =
    all
    ∙ ap (λ (ys : List ℕ). ys ++ window xs (4 + key_length xs) (value_length xs)) (front ∙ ap (λ (ys : List ℕ). ys ++ window xs 4 (key_length xs)) lengths)
    ∙ append_assoc (take 2 xs ++ take 2 (drop 2 xs)) (window xs 4 (key_length xs)) (window xs (4 + key_length xs) (value_length xs))
    ∙ append_assoc (take 2 xs) (take 2 (drop 2 xs)) (window xs 4 (key_length xs) ++ window xs (4 + key_length xs) (value_length xs))
    ∙ ap (λ (ys : List ℕ). ys ++ (take 2 (drop 2 xs) ++ (window xs 4 (key_length xs) ++ window xs (4 + key_length xs) (value_length xs)))) first
    ∙ ap (λ (ys : List ℕ). to_le_bytes w16 (length (window xs 4 (key_length xs))) ++ (ys ++ (window xs 4 (key_length xs) ++ window xs (4 + key_length xs) (value_length xs)))) second in
    sym (take-append-drop (4 + key_length xs + value_length xs) xs)
    ∙ ap (λ (ys : List ℕ). ys ++ drop (4 + key_length xs + value_length xs) xs) whole

pub next-here : (last xs : List ℕ) → ((k : ℕ) → get_or xs k 0 < 256) → 1 ≤ key_length xs → key_length xs ≤ 255 → value_length xs ≤ 1024 → 4 + key_length xs + value_length xs ≤ length xs → is_below last (window xs 4 (key_length xs)) ≡ true
    → IsNext last xs (window xs 4 (key_length xs)) (4 + key_length xs + value_length xs)
next-here last xs small some key_fits value_fits fits low =
    let key_size : length (window xs 4 (key_length xs)) ≡ key_length xs = length-take-le (key_length xs) (drop 4 xs) (omega (arith, length-drop 4 xs)) in
    let value_size : length (window xs (4 + key_length xs) (value_length xs)) ≡ value_length xs = length-take-le (value_length xs) (drop (4 + key_length xs) xs) (omega (arith, length-drop (4 + key_length xs) xs)) in
    record {
      next = record_in xs;
      begins = (record { some = omega arith; key_fits = omega arith; value_fits = omega arith }, low, drop (4 + key_length xs + value_length xs) xs, record-written xs small fits);
      key_is = refl;
      size_is = omega arith;
    }

pub small-drop : (at : ℕ) (bytes : List ℕ) → ((k : ℕ) → get_or bytes k 0 < 256) → (k : ℕ) → get_or (drop at bytes) k 0 < 256
small-drop at bytes small k = let e = get_or-drop at bytes k 0 in let s = small (at + k) in omega arith

pub next-along : (last bytes text : List ℕ) (at key value : ℕ) → key ≡ number_at 2 at bytes → value ≡ number_at 2 (at + 2) bytes → text ≡ window bytes (at + 4) key → ((k : ℕ) → get_or bytes k 0 < 256) → 1 ≤ key → key ≤ 255 → value ≤ 1024 → 4 + key + value ≤ length bytes - at
    → is_below last text ≡ true → IsNext last (drop at bytes) text (4 + key + value)
next-along last bytes text at key value key_is value_is text_is small some key_fits value_fits fits low =
    let k : key ≡ key_length (drop at bytes) = key_is ∙ sym (key_length-at at bytes) in
    let v : value ≡ value_length (drop at bytes) = value_is ∙ sym (value_length-at at bytes) in
    let w : text ≡ window (drop at bytes) 4 (key_length (drop at bytes)) = text_is ∙ window-at at key bytes ∙ ap (λ (n : ℕ). window (drop at bytes) 4 n) k in
    let size : 4 + key_length (drop at bytes) + value_length (drop at bytes) ≡ 4 + key + value = omega arith in
    let next = next-here last (drop at bytes) (small-drop at bytes small) (omega arith) (omega arith) (omega arith) (omega (arith, length-drop at bytes)) (ap (λ (xs : List ℕ). is_below last xs) (sym w) ∙ low) in
    let P : List ℕ → Type 0 = λ xs. IsNext last (drop at bytes) xs (4 + key + value) in
    let Q : ℕ → Type 0 = λ n. IsNext last (drop at bytes) (window (drop at bytes) 4 (key_length (drop at bytes))) n in
    subst P (sym w) (subst Q size next)

pub bad-key-along : (last bytes text : List ℕ) (at key : ℕ) → key ≡ number_at 2 at bytes → text ≡ window bytes (at + 4) key → (is_below last text ≡ true → ⊥) → (r : Record) → BeginWith last (drop at bytes) r → ⊥
bad-key-along last bytes text at key key_is text_is refuses r b =
    let k : key ≡ key_length (drop at bytes) = key_is ∙ sym (key_length-at at bytes) in
    let w : text ≡ window (drop at bytes) 4 (key_length (drop at bytes)) = text_is ∙ window-at at key bytes ∙ ap (λ (n : ℕ). window (drop at bytes) 4 n) k in
    bad-key last (drop at bytes) (λ y. refuses (ap (λ (xs : List ℕ). is_below last xs) w ∙ y)) r b

pub bad-lengths-along : (last bytes : List ℕ) (at key value : ℕ) → key ≡ number_at 2 at bytes → value ≡ number_at 2 (at + 2) bytes → ((key ≤ 255) × (value ≤ 1024) × (4 + key + value ≤ length bytes - at) → ⊥) → (r : Record) → BeginWith last (drop at bytes) r → ⊥
bad-lengths-along last bytes at key value key_is value_is refuses =
    let k : key ≡ key_length (drop at bytes) = key_is ∙ sym (key_length-at at bytes) in
    let v : value ≡ value_length (drop at bytes) = value_is ∙ sym (value_length-at at bytes) in
    bad-lengths last (drop at bytes) (λ fine. let a = fine.0 in let b = fine.1 in let d = fine.2 in refuses (omega arith, omega arith, omega (arith, length-drop at bytes)))
