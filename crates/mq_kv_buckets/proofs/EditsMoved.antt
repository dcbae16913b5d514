-- Edits of a bucket.
use Rattle.std.proofs.Common.{get_or, ◌≡◌, ℕ, zero, suc, add-zero, ◌+◌, ◌-◌, ◌<◌, ◌≤◌, List, [], ◌∷◌, ◌++◌, length, take, drop, refl, sym, ap, ◌∙◌, arith, append_assoc, length-append, length-drop}
use Rattle.std.specs.Prelude.{Option, Some, None}
use Rattle.std.specs.Int.{to_le_bytes, w16}
use Rattle.std.specs.List.{copy_within}
use Rattle.std.proofs.lemmas.List.{drop-drop, drop_at, get_or-append_right, length-take-le, take-append-drop, take-append-le, take-take, take_at}
use Rattle.mq_blocks.specs.Windows.{window, written}
use Rattle.mq_blocks.proofs.WindowsWritten.{length-written, written-then}
use Rattle.mq_kv_buckets.specs.Buckets.{AreZeros, IsBucket, bucket_bytes, bucket_size, padded, zero_bytes}
use Rattle.mq_kv_buckets.specs.Edits.{IsMoved, IsSpot, size_with}
use Rattle.mq_kv_buckets.specs.Records.{Record, above, below, lookup, put_in, record_bytes, records_bytes, size_of_all, without}
use Rattle.mq_kv_buckets.proofs.BucketsChecked.{zeros-are}
use Rattle.mq_kv_buckets.proofs.BucketsReading.{padded-more}
use Rattle.mq_kv_buckets.proofs.KeysOrder.{here, size-around, split}
use Rattle.mq_kv_buckets.proofs.RecordsBytes.{length-record_bytes, length-records_bytes, length-zeros, size_of_all-append, zero-at}
use Rattle.mq_kv_buckets.proofs.Spots.{padded-append, whole}

-- ---- writes

take-written : (b : List ℕ) (p : ℕ) (xs : List ℕ) (n : ℕ) → n ≤ p → p ≤ length b → take n (written b p xs) ≡ take n b
unfolding written
take-written b p xs n low inside =
    let l : n ≤ length (take p b) = omega (arith, length-take-le p b inside) in
    take-append-le n (take p b) (xs ++ drop (p + length xs) b) l ∙ take-take n p b low

drop-written : (b : List ℕ) (p : ℕ) (xs : List ℕ) → p ≤ length b → drop p (written b p xs) ≡ xs ++ drop (p + length xs) b
unfolding written
drop-written b p xs inside = drop_at (take p b) (xs ++ drop (p + length xs) b) p (length-take-le p b inside)

length-window : (b : List ℕ) (from n : ℕ) → from + n ≤ length b → length (window b from n) ≡ n
length-window b from n inside = length-take-le n (drop from b) (omega (arith, length-drop from b))

copied : (b : List ℕ) (i j at : ℕ) → i ≤ j → j ≤ length b → copy_within b i j at ≡ written b at (window b i (j - i))
unfolding written
copied b i j at low inside =
    let l : length (window b i (j - i)) ≡ j - i = length-window b i (j - i) (omega arith) in
    append_assoc (take at b) (take (j - i) (drop i b)) (drop (at + (j - i)) b)
    ∙ ap (λ (n : ℕ). take at b ++ (take (j - i) (drop i b) ++ drop (at + n) b)) (sym l)

zeros-add : (m n : ℕ) → zero_bytes m ++ zero_bytes n ≡ zero_bytes (m + n)
zeros-add zero n = omega-free n
  where
    omega-free : (n : ℕ) → zero_bytes n ≡ zero_bytes (0 + n)
    omega-free n = ap zero_bytes (let e : n ≡ 0 + n = omega arith in e)
zeros-add (suc m) n = ap (λ (xs : List ℕ). 0 ∷ xs) (zeros-add m n) ∙ ap zero_bytes (let e : suc (m + n) ≡ suc m + n = omega arith in e)

zeros-behind : (b : List ℕ) (end n : ℕ) → length b ≡ 4096 → AreZeros b end 4096 → end ≤ n → drop n b ≡ zero_bytes (4096 - n)
zeros-behind b end n size zeros low = zeros-are b n size (λ k from high. zeros k (omega arith) high)

-- ---- room

pub moved-grown : (old new : List ℕ) (at size room end more : ℕ) → length old ≡ 4096 → at + size ≤ end → end ≤ 4096 → more ≡ end - size + room → more ≤ 4096 → end ≤ more → AreZeros old end 4096
    → new ≡ copy_within old (at + size) end (at + room) → IsMoved old new at size room end
moved-grown old new at size room end more l inside last is fits grown zeros e =
    let w : List ℕ = window old (at + size) (end - (at + size)) in
    let wl : length (window old (at + size) (end - (at + size))) ≡ end - (at + size) = length-window old (at + size) (end - (at + size)) (omega arith) in
    let n : new ≡ written old (at + room) (window old (at + size) (end - (at + size))) = e ∙ copied old (at + size) end (at + room) inside (omega arith) in
    let sum : at + room + length (window old (at + size) (end - (at + size))) ≡ more = omega arith in
    record {
      whole = ap length n ∙ length-written old (at + room) (window old (at + size) (end - (at + size))) (omega arith);
      before = ap (λ (xs : List ℕ). take at xs) n ∙ take-written old (at + room) (window old (at + size) (end - (at + size))) at (omega arith) (omega arith);
      behind = ap (λ (xs : List ℕ). drop (at + room) xs) n
          ∙ drop-written old (at + room) (window old (at + size) (end - (at + size))) (omega arith)
          ∙ ap (λ (k : ℕ). window old (at + size) (end - (at + size)) ++ drop k old) sum
          ∙ ap (λ (xs : List ℕ). window old (at + size) (end - (at + size)) ++ xs) (zeros-behind old end more l zeros grown ∙ ap zero_bytes (let z : 4096 - more ≡ length old - (end - size + room) = omega arith in z));
    }

pub moved-shrunk : (old mid new : List ℕ) (at size room end less : ℕ) → length old ≡ 4096 → at + size ≤ end → end ≤ 4096 → less ≡ end - size + room → less < end → AreZeros old end 4096
    → mid ≡ copy_within old (at + size) end (at + room) → new ≡ written mid less (zero_bytes (end - less)) → IsMoved old new at size room end
moved-shrunk old mid new at size room end less l inside last is shrunk zeros e f =
    let wl : length (window old (at + size) (end - (at + size))) ≡ end - (at + size) = length-window old (at + size) (end - (at + size)) (omega arith) in
    let zl : length (zero_bytes (end - less)) ≡ end - less = length-zeros (end - less) in
    let m : mid ≡ written old (at + room) (window old (at + size) (end - (at + size))) = e ∙ copied old (at + size) end (at + room) inside (omega arith) in
    let ys : List ℕ = window old (at + size) (end - (at + size)) ++ zero_bytes (end - less) in
    let yl : length (window old (at + size) (end - (at + size)) ++ zero_bytes (end - less)) ≡ end - (at + size) + (end - less) = omega (arith, length-append (window old (at + size) (end - (at + size))) (zero_bytes (end - less))) in
    let n : new ≡ written old (at + room) (window old (at + size) (end - (at + size)) ++ zero_bytes (end - less)) =
    f ∙ ap (λ (xs : List ℕ). written xs less (zero_bytes (end - less))) m ∙ written-then old (at + room) (window old (at + size) (end - (at + size))) less (zero_bytes (end - less)) (omega arith) (omega arith) in
    let sum : at + room + length (window old (at + size) (end - (at + size)) ++ zero_bytes (end - less)) ≡ end = omega arith in
    record {
      whole = ap length n ∙ length-written old (at + room) (window old (at + size) (end - (at + size)) ++ zero_bytes (end - less)) (omega arith);
      before = ap (λ (xs : List ℕ). take at xs) n ∙ take-written old (at + room) (window old (at + size) (end - (at + size)) ++ zero_bytes (end - less)) at (omega arith) (omega arith);
      behind = ap (λ (xs : List ℕ). drop (at + room) xs) n
          ∙ drop-written old (at + room) (window old (at + size) (end - (at + size)) ++ zero_bytes (end - less)) (omega arith)
          ∙ ap (λ (k : ℕ). (window old (at + size) (end - (at + size)) ++ zero_bytes (end - less)) ++ drop k old) sum
          ∙ append_assoc (window old (at + size) (end - (at + size))) (zero_bytes (end - less)) (drop end old)
          ∙ ap (λ (xs : List ℕ). window old (at + size) (end - (at + size)) ++ xs)
          (ap (λ (xs : List ℕ). zero_bytes (end - less) ++ xs) (zeros-behind old end end l zeros (omega arith)) ∙ zeros-add (end - less) (4096 - end) ∙ ap zero_bytes (let z : end - less + (4096 - end) ≡ length old - (end - size + room) = omega arith in z));
    }

-- ---- a record

pub record-written : (b b₁ b₂ b₃ b₄ : List ℕ) (at : ℕ) (key value : List ℕ) → at + 4 + length key + length value ≤ length b
    → b₁ ≡ written b at (to_le_bytes w16 (length key)) → b₂ ≡ written b₁ (at + 2) (to_le_bytes w16 (length value)) → b₃ ≡ written b₂ (at + 4) key → b₄ ≡ written b₃ (at + 4 + length key) value
    → b₄ ≡ written b at (record_bytes (record { key = key; value = value }))
unfolding record_bytes
record-written b b₁ b₂ b₃ b₄ at key value room e₁ e₂ e₃ e₄ =
    let A : List ℕ = to_le_bytes w16 (length key) in
    let B : List ℕ = to_le_bytes w16 (length value) in
    let f₂ : b₂ ≡ written b at (to_le_bytes w16 (length key) ++ to_le_bytes w16 (length value)) =
    e₂ ∙ ap (λ (xs : List ℕ). written xs (at + 2) (to_le_bytes w16 (length value))) e₁ ∙ written-then b at (to_le_bytes w16 (length key)) (at + 2) (to_le_bytes w16 (length value)) (omega arith) (omega arith) in
    let f₃ : b₃ ≡ written b at (to_le_bytes w16 (length key) ++ to_le_bytes w16 (length value) ++ key) =
    e₃ ∙ ap (λ (xs : List ℕ). written xs (at + 4) key) f₂ ∙ written-then b at (to_le_bytes w16 (length key) ++ to_le_bytes w16 (length value)) (at + 4) key (omega arith) (omega arith) in
    let l : length (to_le_bytes w16 (length key) ++ to_le_bytes w16 (length value) ++ key) ≡ 4 + length key = omega arith in
    let f₄ : b₄ ≡ written b at (to_le_bytes w16 (length key) ++ to_le_bytes w16 (length value) ++ key ++ value) =
    e₄ ∙ ap (λ (xs : List ℕ). written xs (at + 4 + length key) value) f₃ ∙ written-then b at (to_le_bytes w16 (length key) ++ to_le_bytes w16 (length value) ++ key) (at + 4 + length key) value (omega arith) (omega arith) in
    f₄

-- ---- the bucket after an edit

size-here : (key : List ℕ) (o : Option (List ℕ)) → size_of_all (here key o) ≡ size_with key o
size-here key None = refl
size-here key (Some value) = omega arith

-- the bytes of a bucket around a key
pub record IsAround (bytes : List ℕ) (rs : List Record) (key : List ℕ) (at size : ℕ) : Type 0 where
  pub before : take at bytes ≡ records_bytes (below key rs)
  pub behind : window bytes (at + size) (size_of_all rs - (at + size)) ≡ records_bytes (above key rs)
  pub sum : size_of_all rs ≡ at + (size + size_of_all (above key rs))
  pub zeros : AreZeros bytes (size_of_all rs) 4096

around-zeros : (bytes : List ℕ) (rs : List Record) → IsBucket bytes rs → AreZeros bytes (size_of_all rs) 4096
unfolding bucket_bytes padded
around-zeros bytes rs bucket k low high =
    let l = length-records_bytes rs in
    ap (λ (xs : List ℕ). get_or xs k 0) bucket.is
    ∙ get_or-append_right (records_bytes rs) (zero_bytes (bucket_size - size_of_all rs)) (size_of_all rs) k 0 l low
    ∙ zero-at (bucket_size - size_of_all rs) (k - size_of_all rs)

pub zeros-from : (bytes : List ℕ) (rs : List Record) (end : ℕ) → IsBucket bytes rs → end ≡ size_of_all rs → AreZeros bytes end 4096
zeros-from bytes rs end bucket e k low high = around-zeros bytes rs bucket k (let l : size_of_all rs ≤ k = omega arith in l) high

pub around : (bytes : List ℕ) (rs : List Record) (key : List ℕ) (at size : ℕ) → IsBucket bytes rs → IsSpot rs key at size → IsAround bytes rs key at size
unfolding bucket_bytes padded
around bytes rs key at size bucket spot =
    let z : ℕ = bucket_size - size_of_all rs in
    let h : List Record = here key (lookup rs key) in
    let all : bytes ≡ records_bytes (below key rs) ++ (records_bytes (here key (lookup rs key)) ++ padded (above key rs) (bucket_size - size_of_all rs)) =
    bucket.is
    ∙ ap (λ (xs : List Record). padded xs (bucket_size - size_of_all rs)) (split key [] rs bucket.rising)
    ∙ padded-append (below key rs) (here key (lookup rs key) ++ above key rs) (bucket_size - size_of_all rs)
    ∙ ap (λ (xs : List ℕ). records_bytes (below key rs) ++ xs) (padded-append (here key (lookup rs key)) (above key rs) (bucket_size - size_of_all rs)) in
    let low : length (records_bytes (below key rs)) ≡ at = length-records_bytes (below key rs) ∙ sym spot.at_is in
    let mid : length (records_bytes (here key (lookup rs key))) ≡ size = length-records_bytes (here key (lookup rs key)) ∙ size-here key (lookup rs key) ∙ sym spot.size_is in
    let sum : size_of_all rs ≡ at + (size + size_of_all (above key rs)) = omega (arith, size-around key [] rs bucket.rising, size-here key (lookup rs key), spot.at_is, spot.size_is) in
    let first : drop at bytes ≡ records_bytes (here key (lookup rs key)) ++ padded (above key rs) (bucket_size - size_of_all rs) = ap (λ (xs : List ℕ). drop at xs) all ∙ drop_at (records_bytes (below key rs)) _ at low in
    let second : drop (at + size) bytes ≡ padded (above key rs) (bucket_size - size_of_all rs) =
    sym (drop-drop size at bytes) ∙ ap (λ (xs : List ℕ). drop size xs) first ∙ drop_at (records_bytes (here key (lookup rs key))) (padded (above key rs) (bucket_size - size_of_all rs)) size mid in
    let count : length (records_bytes (above key rs)) ≡ size_of_all rs - (at + size) = omega (arith, length-records_bytes (above key rs)) in
    record {
      before = ap (λ (xs : List ℕ). take at xs) all ∙ take_at (records_bytes (below key rs)) _ at low;
      behind = ap (λ (xs : List ℕ). take (size_of_all rs - (at + size)) xs) second ∙ take_at (records_bytes (above key rs)) (zero_bytes (bucket_size - size_of_all rs)) (size_of_all rs - (at + size)) count;
      sum = sum;
      zeros = around-zeros bytes rs bucket;
    }

pub size-put : (bytes : List ℕ) (rs : List Record) (key value : List ℕ) (at size : ℕ) → IsBucket bytes rs → IsSpot rs key at size → size_of_all (put_in key value rs) ≡ size_of_all rs - size + (4 + length key + length value)
size-put bytes rs key value at size bucket spot =
    let a = around bytes rs key at size bucket spot in
    let sum = a.sum in
    let at_is = spot.at_is in
    omega (arith, size_of_all-append (below key rs) (record { key = key; value = value } ∷ above key rs))

pub put-result : (old mid new : List ℕ) (rs : List Record) (key value : List ℕ) (at size room end : ℕ) → IsBucket old rs → IsSpot rs key at size → end ≡ size_of_all rs → room ≡ 4 + length key + length value
    → IsMoved old mid at size room end → new ≡ written mid at (record_bytes (record { key = key; value = value })) → new ≡ bucket_bytes (put_in key value rs)
unfolding bucket_bytes padded written
put-result old mid new rs key value at size room end bucket spot end_is room_is moved e =
    let r : Record = record { key = key; value = value } in
    let a = around old rs key at size bucket spot in
    let sum = a.sum in
    let l : at + length (record_bytes (record { key = key; value = value })) ≡ at + room = omega (arith, length-record_bytes (record { key = key; value = value })) in
    let count : end - (at + size) ≡ size_of_all rs - (at + size) = ap (λ (n : ℕ). n - (at + size)) end_is in
    let zeros : length old - (end - size + room) ≡ bucket_size - size_of_all (put_in key value rs) = omega (arith, size-put old rs key value at size bucket spot, whole old rs bucket) in
    e
    ∙ ap (λ (xs : List ℕ). xs ++ (record_bytes (record { key = key; value = value }) ++ drop (at + length (record_bytes (record { key = key; value = value }))) mid)) (moved.before ∙ a.before)
    ∙ ap (λ (n : ℕ). records_bytes (below key rs) ++ (record_bytes (record { key = key; value = value }) ++ drop n mid)) l
    ∙ ap (λ (xs : List ℕ). records_bytes (below key rs) ++ (record_bytes (record { key = key; value = value }) ++ xs))
    (moved.behind ∙ ap (λ (n : ℕ). window old (at + size) n ++ zero_bytes (length old - (end - size + room))) count ∙ ap (λ (xs : List ℕ). xs ++ zero_bytes (length old - (end - size + room))) a.behind
    ∙ ap (λ (n : ℕ). records_bytes (above key rs) ++ zero_bytes n) zeros)
    ∙ ap (λ (xs : List ℕ). records_bytes (below key rs) ++ xs) (sym (padded-more (record { key = key; value = value }) (above key rs) (bucket_size - size_of_all (put_in key value rs))))
    ∙ sym (padded-append (below key rs) (record { key = key; value = value } ∷ above key rs) (bucket_size - size_of_all (put_in key value rs)))

pub remove-result : (old new : List ℕ) (rs : List Record) (key : List ℕ) (at size end : ℕ) → IsBucket old rs → IsSpot rs key at size → end ≡ size_of_all rs → IsMoved old new at size 0 end → new ≡ bucket_bytes (without key rs)
unfolding bucket_bytes padded
remove-result old new rs key at size end bucket spot end_is moved =
    let a = around old rs key at size bucket spot in
    let sum = a.sum in
    let at_is = spot.at_is in
    let count : end - (at + size) ≡ size_of_all rs - (at + size) = ap (λ (n : ℕ). n - (at + size)) end_is in
    let zeros : length old - (end - size + 0) ≡ bucket_size - size_of_all (without key rs) = omega (arith, size_of_all-append (below key rs) (above key rs), whole old rs bucket) in
    sym (take-append-drop at new)
    ∙ ap (λ (xs : List ℕ). xs ++ drop at new) (moved.before ∙ a.before)
    ∙ ap (λ (n : ℕ). records_bytes (below key rs) ++ drop n new) (sym (add-zero at))
    ∙ ap (λ (xs : List ℕ). records_bytes (below key rs) ++ xs)
    (moved.behind ∙ ap (λ (n : ℕ). window old (at + size) n ++ zero_bytes (length old - (end - size + 0))) count ∙ ap (λ (xs : List ℕ). xs ++ zero_bytes (length old - (end - size + 0))) a.behind
    ∙ ap (λ (n : ℕ). records_bytes (above key rs) ++ zero_bytes n) zeros)
    ∙ sym (padded-append (below key rs) (above key rs) (bucket_size - size_of_all (without key rs)))

pub spot-inside : (bytes : List ℕ) (rs : List Record) (key : List ℕ) (at size end : ℕ) → IsBucket bytes rs → IsSpot rs key at size → end ≡ size_of_all rs → at + size ≤ end
spot-inside bytes rs key at size end bucket spot end_is = let sum : size_of_all rs ≡ at + (size + size_of_all (above key rs)) = (around bytes rs key at size bucket spot).sum in omega arith
