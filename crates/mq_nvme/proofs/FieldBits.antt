-- Reading and writing the bits of a dword.
use Rattle.std.proofs.Common.{◌≡◌, ◌≢◌, ◌<◌, ◌≤◌, ◌⊎◌, inl, inr, ℕ, ◌+◌, ◌-◌, ◌*◌, ◌/◌, ◌%◌, ◌^◌, List, length, slice_index, refl, sym, ◌∙◌, ap, subst, arith}
use Rattle.std.specs.Int.{bit_at}
use Rattle.std.proofs.lemmas.Nat.{pow_pos, pow-add, one_shl, shl_whole, shr_below, shr_high, shr_le, shr_split, mod_low, mod_below, mul-add-lt, shr-shr}
use Rattle.std.proofs.lemmas.Nat.Bits.{bit_at_cat_low, bit_at_cat_high, same_from_bits_below}
use Rattle.std.proofs.lemmas.Bool.{cases_eq}
use Rattle.std.proofs.lemmas.List.{get_or-set_same, get_or-set_other}
use Rattle.mq_nvme.specs.Dwords.{AreDwords}
use Rattle.mq_nvme.specs.Field.{Place, IsWithin, bits_of, with_bits, get_field, set_field, AreSameOutside}

-- a power of two that a register holds
pub power : (k : ℕ) → k ≤ 32 → 1 * 2 ^ k % 2 ^ 64 ≡ 2 ^ k
power k h = one_shl k 64 (omega arith)

below_low : (low n : ℕ) → n % 2 ^ low < 2 ^ low
below_low low n = mod_below n (2 ^ low) (pow_pos low)

-- two parts of a number, of j and of k bits
parts_fit : (j k high low : ℕ) → high < 2 ^ j → low < 2 ^ k → high * 2 ^ k + low < 2 ^ (k + j)
parts_fit j k high low h l = rw (pow-add 2 k j) (mul-add-lt high (2 ^ k) low (2 ^ j) h l)

-- the value and the bits below it
value_fits : (low width value n : ℕ) → value < 2 ^ width → value * 2 ^ low + n % 2 ^ low < 2 ^ (low + width)
value_fits low width value n h = parts_fit width low value (n % 2 ^ low) h (below_low low n)

pub with_bits-fits : (low width value n : ℕ) → low + width ≤ 32 → value < 2 ^ width → n < 2 ^ 32 → with_bits low width value n < 2 ^ 32
unfolding with_bits
with_bits-fits low width value n within h fits =
    let k = low + width in
    let split : 32 - k + k ≡ 32 = omega arith in
    let turned : k + (32 - k) ≡ 32 = omega arith in
    let above : n / 2 ^ k < 2 ^ (32 - k) = shr_below n (32 - k) k (subst (λ (x : ℕ). n < 2 ^ x) (sym split) fits) in
    subst (λ (x : ℕ). n / 2 ^ k * 2 ^ k + (value * 2 ^ low + n % 2 ^ low) < 2 ^ x) turned (parts_fit (32 - k) k _ _ above (value_fits low width value n h))

-- the bits above and the value are one number, over the bits below
split_low : (low width value n : ℕ) → with_bits low width value n ≡ (n / 2 ^ (low + width) * 2 ^ width + value) * 2 ^ low + n % 2 ^ low
unfolding with_bits
split_low low width value n = rw (pow-add 2 low width) (omega arith)

-- what is written is read
pub bits_of-with_bits : (low width value n : ℕ) → value < 2 ^ width → bits_of low width (with_bits low width value n) ≡ value
unfolding bits_of
bits_of-with_bits low width value n h =
    let high = n / 2 ^ (low + width) in
    rw (split_low low width value n) (rw (shr_high (high * 2 ^ width + value) low (n % 2 ^ low) (below_low low n)) (mod_low high width value h))

bit_below : (low width value n bit : ℕ) → bit < low → bit_at (with_bits low width value n) bit ≡ bit_at n bit
bit_below low width value n bit lt =
    ap (λ (x : ℕ). bit_at x bit) (split_low low width value n)
    ∙ bit_at_cat_low (n / 2 ^ (low + width) * 2 ^ width + value) low (n % 2 ^ low) bit lt
    ∙ sym (bit_at_cat_low (n / 2 ^ low) low (n % 2 ^ low) bit lt)
    ∙ ap (λ (x : ℕ). bit_at x bit) (shr_split n low)

bit_above : (low width value n bit : ℕ) → value < 2 ^ width → low + width ≤ bit → bit_at (with_bits low width value n) bit ≡ bit_at n bit
unfolding with_bits
bit_above low width value n bit h le =
    let k = low + width in
    bit_at_cat_high (n / 2 ^ k) k _ bit (value_fits low width value n h) le
    ∙ sym (bit_at_cat_high (n / 2 ^ k) k (n % 2 ^ k) bit (below_low k n) le)
    ∙ ap (λ (x : ℕ). bit_at x bit) (shr_split n k)

pub get_field-set_field : (p : Place) (value : ℕ) (e : List ℕ) → p.dword < length e → value < 2 ^ p.width → get_field p (set_field p value e) ≡ value
unfolding get_field set_field
get_field-set_field p value e at h = rw (get_or-set_same e p.dword (with_bits p.low p.width value (slice_index e p.dword)) 0 at) (bits_of-with_bits p.low p.width value (slice_index e p.dword) h)

bit_outside : (low width value n bit : ℕ) → value < 2 ^ width → (bit < low) ⊎ (low + width ≤ bit) → bit_at (with_bits low width value n) bit ≡ bit_at n bit
bit_outside low width value n bit h (inl lt) = bit_below low width value n bit lt
bit_outside low width value n bit h (inr le) = bit_above low width value n bit h le

same_dword : (p : Place) (value : ℕ) (e : List ℕ) (bit : ℕ) → p.dword < length e → value < 2 ^ p.width → (bit < p.low) ⊎ (p.low + p.width ≤ bit)
    → bit_at (slice_index (set_field p value e) p.dword) bit ≡ bit_at (slice_index e p.dword) bit
unfolding set_field
same_dword p value e bit at h there =
    ap (λ (x : ℕ). bit_at x bit) (get_or-set_same e p.dword (with_bits p.low p.width value (slice_index e p.dword)) 0 at)
    ∙ bit_outside p.low p.width value (slice_index e p.dword) bit h there

other_dword : (p : Place) (value : ℕ) (e : List ℕ) (dword : ℕ) → dword ≢ p.dword → slice_index (set_field p value e) dword ≡ slice_index e dword
unfolding set_field
other_dword p value e dword other = get_or-set_other e p.dword dword (with_bits p.low p.width value (slice_index e p.dword)) 0 other

-- all other bits stay
pub set_field-outside : (p : Place) (value : ℕ) (e : List ℕ) → p.dword < length e → value < 2 ^ p.width → AreSameOutside p (set_field p value e) e
set_field-outside p value e at h dword bit (inl other) = ap (λ (x : ℕ). bit_at x bit) (other_dword p value e dword other)
set_field-outside p value e at h dword bit (inr there) =
    elim (cases_eq dword p.dword) [
      | inl same ↦ rw same (same_dword p value e bit at h there)
      | inr other ↦ ap (λ (x : ℕ). bit_at x bit) (other_dword p value e dword other)
    ]

-- a run of bits is known by its bits
bit_at-bits_of : (low width n i : ℕ) → i < width → bit_at (bits_of low width n) i ≡ bit_at n (low + i)
unfolding bits_of
bit_at-bits_of low width n i lt =
    sym (bit_at_cat_low (n / 2 ^ low / 2 ^ width) width (n / 2 ^ low % 2 ^ width) i lt)
    ∙ ap (λ (x : ℕ). bit_at x i) (shr_split (n / 2 ^ low) width)
    ∙ ap (λ (x : ℕ). x % 2) (shr-shr n low i)

bits_of-lt : (low width n : ℕ) → bits_of low width n < 2 ^ width
unfolding bits_of
bits_of-lt low width n = below_low width (n / 2 ^ low)

pub bits_of-same : (low width n m : ℕ) → ((i : ℕ) → i < width → bit_at n (low + i) ≡ bit_at m (low + i)) → bits_of low width n ≡ bits_of low width m
bits_of-same low width n m same =
    same_from_bits_below width _ _ (bits_of-lt low width n) (bits_of-lt low width m)
    (λ i lt. bit_at-bits_of low width n i lt ∙ same i lt ∙ sym (bit_at-bits_of low width m i lt))

-- with_bits as the registers compute it
pub with_bits-computed : (low width value n : ℕ) → low + width ≤ 32 → value < 2 ^ 32 → n < 2 ^ 32
    → n / 2 ^ (low + width) * 2 ^ (low + width) % 2 ^ 64 + (value * 2 ^ low % 2 ^ 64 + n % (1 * 2 ^ low % 2 ^ 64)) ≡ with_bits low width value n
unfolding with_bits
with_bits-computed low width value n within h fits =
    let k = low + width in
    let high : n / 2 ^ k < 2 ^ 32 = let less = shr_le n k in omega arith in
    let above = shl_whole (n / 2 ^ k) 32 k 64 high (omega arith) in
    let there = shl_whole value 32 low 64 h (omega arith) in
    let mask = power low (omega arith) in
    rw (above, there, mask) refl

-- what a write leaves
pub written-value : (p : Place) (value count : ℕ) (e d : List ℕ) → AreDwords count e → IsWithin count p → value < 2 ^ p.width
    → d ≡ set_field p value e → get_field p d ≡ value
written-value p value count e d are within h is =
    rw is (get_field-set_field p value e (subst (λ (n : ℕ). p.dword < n) (sym are.long) within.dword) h)

pub written-outside : (p : Place) (value count : ℕ) (e d : List ℕ) → AreDwords count e → IsWithin count p → value < 2 ^ p.width
    → d ≡ set_field p value e → AreSameOutside p d e
written-outside p value count e d are within h is =
    rw is (set_field-outside p value e (subst (λ (n : ℕ). p.dword < n) (sym are.long) within.dword) h)
