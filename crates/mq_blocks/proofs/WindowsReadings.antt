-- Numbers as bytes, and back.
use Rattle.std.proofs.Common.{◌≡◌, ℕ, zero, suc, inl, inr, add-zero, ◌+◌, ◌*◌, ◌^◌, ◌<◌, ◌≤◌, List, [], ◌∷◌, ◌++◌, length, take, drop, get_or, refl, sym, ap, ◌∙◌, arith, length-append, length-take, length-drop}
use Rattle.std.proofs.lemmas.List.{places, same_lists, get_or_past, drop-drop, length-take-le, get_or-take, get_or-drop}
use Rattle.std.proofs.lemmas.Bool.{cases_lt}
use Rattle.std.proofs.lemmas.Nat.{le_bytes_2, le_bytes_4, le_bytes_8}
use Rattle.std.specs.Int.{to_le_bytes, from_le_bytes, w16, w32, w64}
use Rattle.byteorder.specs.Endian.{little_from, little_number}
use Rattle.byteorder.specs.Numbers.{little_number-reads_back, little_from-take, little_from-lt}
use Rattle.mq_blocks.specs.Descriptor.{list_bytes, AreRising}
use Rattle.mq_blocks.specs.Windows.{window, number_at, numbers}

-- two windows side by side are one
pub window-add : (b : List ℕ) (at m n : ℕ) → window b at (m + n) ≡ window b at m ++ window b (at + m) n
window-add b at m n = same_lists _ _ (simp (length-append, length-take, length-drop) (omega arith)) (λ k d l. grind (arith, places))

pub number_at-drop : (size at from : ℕ) (b : List ℕ) → number_at size at (drop from b) ≡ number_at size (from + at) b
unfolding number_at
number_at-drop size at from b = ap (little_number size) (drop-drop at from b)

-- the list that one more entry makes
numbers-suc : (n : ℕ) (xs : List ℕ) → numbers (suc n) xs ≡ numbers n xs ++ number_at 4 (4 * n) xs ∷ []
unfolding numbers
numbers-suc zero xs = refl
numbers-suc (suc n) xs =
    let e : 4 + 4 * n ≡ 4 * suc n = omega arith in
    let f : number_at 4 (4 * n) (drop 4 xs) ≡ number_at 4 (4 * suc n) xs = number_at-drop 4 (4 * n) 4 xs ∙ ap (λ (k : ℕ). number_at 4 k xs) e in
    ap (λ (ys : List ℕ). number_at 4 0 xs ∷ ys) (numbers-suc n (drop 4 xs)) ∙ ap (λ (y : ℕ). number_at 4 0 xs ∷ (numbers n (drop 4 xs) ++ y ∷ [])) f

pub numbers-more : (n at : ℕ) (b : List ℕ) (x : ℕ) → x ≡ number_at 4 (at + 4 * n) b → numbers (n + 1) (drop at b) ≡ numbers n (drop at b) ++ x ∷ []
numbers-more n at b x e =
    let s : n + 1 ≡ suc n = omega arith in
    ap (λ (k : ℕ). numbers k (drop at b)) s ∙ numbers-suc n (drop at b) ∙ ap (λ (y : ℕ). numbers n (drop at b) ++ y ∷ []) (number_at-drop 4 (4 * n) at b ∙ sym e)

pub numbers-none : (xs : List ℕ) → numbers 0 xs ≡ []
unfolding numbers
numbers-none xs = refl

pub length-numbers : (n : ℕ) (xs : List ℕ) → length (numbers n xs) ≡ n
unfolding numbers
length-numbers zero xs = refl
length-numbers (suc n) xs = omega (arith, length-numbers n (drop 4 xs))

-- a number that was written is read back
pub number_at-4 : (x : ℕ) (rest : List ℕ) → x < 2 ^ 32 → number_at 4 0 (to_le_bytes w32 x ++ rest) ≡ x
unfolding number_at
number_at-4 x rest h = little_number-reads_back 4 x rest h

-- a list that was written is read back
pub numbers-list_bytes : (low high : ℕ) (bs rest : List ℕ) (n : ℕ) → high ≤ 2 ^ 32 → AreRising low high bs → n ≡ length bs → numbers n (list_bytes bs ++ rest) ≡ bs
unfolding numbers
numbers-list_bytes low high [] rest zero h r e = refl
numbers-list_bytes low high [] rest (suc n) h r e = absurd (omega arith)
numbers-list_bytes low high (b ∷ bs) rest zero h r e = absurd (omega arith)
numbers-list_bytes low high (b ∷ bs) rest (suc n) h r e =
    let t = r.1 in
    let first = number_at-4 b (list_bytes bs ++ rest) (omega arith) in
    let others = numbers-list_bytes (b + 1) high bs rest n h r.2 (omega arith) in
    ap (λ (y : ℕ). y ∷ numbers n (list_bytes bs ++ rest)) first ∙ ap (λ (ys : List ℕ). b ∷ ys) others

small-window : (at n i : ℕ) (b : List ℕ) → ((i : ℕ) → get_or b i 0 < 256) → get_or (window b at n) i 0 < 256
small-window at n i b small = elim (cases_lt i n) [
  | inl l ↦ let e : get_or (window b at n) i 0 ≡ get_or b (at + i) 0 = get_or-take n (drop at b) i 0 l ∙ get_or-drop at b i 0 in let s = small (at + i) in omega arith
  | inr g ↦ let e : get_or (window b at n) i 0 ≡ 0 = get_or_past (window b at n) i 0 (omega (arith, length-take n (drop at b))) in omega arith
]

-- bytes that were read are those of the number
pub bytes-number_at_4 : (at : ℕ) (b : List ℕ) → at + 4 ≤ length b → ((i : ℕ) → get_or b i 0 < 256) → to_le_bytes w32 (number_at 4 at b) ≡ window b at 4
unfolding number_at
bytes-number_at_4 at b h small =
    let len : length (window b at 4) ≡ 4 = length-take-le 4 (drop at b) (omega (arith, length-drop at b)) in
    let same : little_from 0 4 (take 4 (drop at b)) ≡ from_le_bytes w32 (take 4 (drop at b)) = omega arith in
    le_bytes_4 (window b at 4) _ len (λ i. small-window at 4 i b small) (sym (little_from-take 0 4 4 (drop at b) (omega arith)) ∙ same)

pub bytes-number_at_2 : (at : ℕ) (b : List ℕ) → at + 2 ≤ length b → ((i : ℕ) → get_or b i 0 < 256) → to_le_bytes w16 (number_at 2 at b) ≡ window b at 2
unfolding number_at
bytes-number_at_2 at b h small =
    let len : length (window b at 2) ≡ 2 = length-take-le 2 (drop at b) (omega (arith, length-drop at b)) in
    let same : little_from 0 2 (take 2 (drop at b)) ≡ from_le_bytes w16 (take 2 (drop at b)) = omega arith in
    le_bytes_2 (window b at 2) _ len (λ i. small-window at 2 i b small) (sym (little_from-take 0 2 2 (drop at b) (omega arith)) ∙ same)

pub bytes-number_at_8 : (at : ℕ) (b : List ℕ) → at + 8 ≤ length b → ((i : ℕ) → get_or b i 0 < 256) → to_le_bytes w64 (number_at 8 at b) ≡ window b at 8
unfolding number_at
bytes-number_at_8 at b h small =
    let len : length (window b at 8) ≡ 8 = length-take-le 8 (drop at b) (omega (arith, length-drop at b)) in
    let same : little_from 0 8 (take 8 (drop at b)) ≡ from_le_bytes w64 (take 8 (drop at b)) = omega arith in
    le_bytes_8 (window b at 8) _ len (λ i. small-window at 8 i b small) (sym (little_from-take 0 8 8 (drop at b) (omega arith)) ∙ same)

-- a number in bytes is below the power that has as many
pub number_at-below : (size at : ℕ) (b : List ℕ) → ((i : ℕ) → get_or b i 0 < 256) → number_at size at b < 256 ^ size
unfolding number_at
number_at-below size at b small = little_from-lt 0 size (drop at b) (λ k. let e = get_or-drop at b k 0 in let s = small (at + k) in omega arith)

-- the bytes that a list was read from are those of the list
pub list_bytes-numbers : (n at : ℕ) (b : List ℕ) → at + 4 * n ≤ length b → ((i : ℕ) → get_or b i 0 < 256) → list_bytes (numbers n (drop at b)) ≡ window b at (4 * n)
unfolding numbers
list_bytes-numbers zero at b h small = refl
list_bytes-numbers (suc n) at b h small =
    let first : to_le_bytes w32 (number_at 4 0 (drop at b)) ≡ window b at 4 =
    ap (to_le_bytes w32) (number_at-drop 4 0 at b ∙ ap (λ (k : ℕ). number_at 4 k b) (add-zero at)) ∙ bytes-number_at_4 at b (omega arith) small in
    let others : list_bytes (numbers n (drop 4 (drop at b))) ≡ window b (at + 4) (4 * n) =
    ap (λ (xs : List ℕ). list_bytes (numbers n xs)) (drop-drop 4 at b) ∙ list_bytes-numbers n (at + 4) b (omega arith) small in
    let e : 4 * suc n ≡ 4 + 4 * n = omega arith in
    ap (λ (xs : List ℕ). xs ++ list_bytes (numbers n (drop 4 (drop at b)))) first ∙ ap (λ (xs : List ℕ). window b at 4 ++ xs) others ∙ sym (window-add b at 4 (4 * n)) ∙ ap (λ (k : ℕ). window b at k) (sym e)
