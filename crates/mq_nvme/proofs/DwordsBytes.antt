-- Dwords and their bytes determine each other.
use Rattle.std.proofs.Common.{◌≡◌, ◌<◌, ℕ, suc, ◌+◌, ◌*◌, ◌/◌, ◌%◌, ◌^◌, List, [], ◌∷◌, length, drop, slice_index, refl, sym, ◌∙◌, arith}
use Rattle.std.specs.Int.{to_le_bytes, w32}
use Rattle.std.specs.List.{flat_map}
use Rattle.byteorder.specs.Endian.{little_number}
use Rattle.mq_nvme.specs.Dwords.{AreDwords, dword_bytes}

heads : {x y : ℕ} {xs ys : List ℕ} → x ∷ xs ≡ y ∷ ys → (x ≡ y) × (xs ≡ ys)
heads h = (cc, cc)

from_digits : (x y : ℕ) → x < 2 ^ 32 → y < 2 ^ 32 → x % 256 ≡ y % 256 → x / 256 % 256 ≡ y / 256 % 256
    → x / 65536 % 256 ≡ y / 65536 % 256 → x / 16777216 % 256 ≡ y / 16777216 % 256 → x ≡ y
from_digits x y h k a b p q = omega arith

flat-injective : (ds es : List ℕ) → length ds ≡ length es → ((k : ℕ) → slice_index ds k < 2 ^ 32) → ((k : ℕ) → slice_index es k < 2 ^ 32)
    → flat_map (to_le_bytes w32) ds ≡ flat_map (to_le_bytes w32) es → ds ≡ es
flat-injective [] [] len d e same = refl
flat-injective [] (y ∷ es) len d e same = absurd (omega arith)
flat-injective (x ∷ ds) [] len d e same = absurd (omega arith)
flat-injective (x ∷ ds) (y ∷ es) len d e same =
    let a = heads same in
    let b = heads a.1 in
    let p = heads b.1 in
    let q = heads p.1 in
    let here = from_digits x y (d 0) (e 0) a.0 b.0 p.0 q.0 in
    let rest = flat-injective ds es (omega arith) (λ k. d (suc k)) (λ k. e (suc k)) q.1 in
    cc

-- the bytes of dwords that were read are those bytes
pub bytes_of-read : (ds bs : List ℕ) → length bs ≡ 4 * length ds → ((k : ℕ) → slice_index bs k < 256)
    → ((k : ℕ) → k < length ds → slice_index ds k ≡ little_number 4 (drop (4 * k) bs))
    → flat_map (to_le_bytes w32) ds ≡ bs
bytes_of-read [] [] len fit read = refl
bytes_of-read [] (b ∷ bs) len fit read = absurd (omega arith)
bytes_of-read (d ∷ ds) [] len fit read = absurd (omega arith)
bytes_of-read (d ∷ ds) (b ∷ []) len fit read = absurd (omega arith)
bytes_of-read (d ∷ ds) (b ∷ c ∷ []) len fit read = absurd (omega arith)
bytes_of-read (d ∷ ds) (b ∷ c ∷ p ∷ []) len fit read = absurd (omega arith)
bytes_of-read (d ∷ ds) (b ∷ c ∷ p ∷ q ∷ bs) len fit read =
    let first : d ≡ b + 256 * (c + 256 * (p + 256 * q)) = omega (arith, read 0 (omega arith)) in
    let b_fits = fit 0 in
    let c_fits = fit 1 in
    let p_fits = fit 2 in
    let q_fits = fit 3 in
    let b_is : d % 256 ≡ b = omega arith in
    let c_is : d / 256 % 256 ≡ c = omega arith in
    let p_is : d / 65536 % 256 ≡ p = omega arith in
    let q_is : d / 16777216 % 256 ≡ q = omega arith in
    let rest = bytes_of-read ds bs (omega arith) (λ k. fit (suc (suc (suc (suc k))))) (λ k lt. let e : 4 * suc k ≡ suc (suc (suc (suc (4 * k)))) = omega arith in rw e at (read (suc k) (omega arith))) in
    rw (b_is, c_is, p_is, q_is, rest)

-- dwords with the same bytes are the same
pub dword_bytes-injective : (n : ℕ) (ds es : List ℕ) → AreDwords n ds → AreDwords n es → dword_bytes ds ≡ dword_bytes es → ds ≡ es
unfolding dword_bytes
dword_bytes-injective n ds es d e same = flat-injective ds es (d.long ∙ sym e.long) d.fit e.fit same
