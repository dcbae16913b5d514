-- Numbers of eight bytes each: as they stand in a block, and rising ones entry by entry.
use Rattle.std.proofs.Common.{◌≡◌, ℕ, zero, suc, ◌+◌, ◌*◌, ◌^◌, ◌<◌, ◌≤◌, ◌⊎◌, inl, inr, add-zero, List, [], ◌∷◌, ◌++◌, length, take, drop, get_or, refl, sym, ap, subst, ◌∙◌, arith}
use Rattle.std.proofs.lemmas.List.{drop-drop, take_more}
use Rattle.std.specs.Int.{to_le_bytes, w64}
use Rattle.byteorder.specs.Numbers.{little_number-reads_back}
use Rattle.mq_area.proofs.DescriptorRising.{next_above, next_above-push, rising-push, rising-pushed}
use Rattle.mq_area.specs.Reading.{StopsAt}
use Rattle.mq_blocks.proofs.WindowsReadings.{bytes-number_at_8, number_at-drop, window-add}
use Rattle.mq_blocks.specs.Descriptor.{AreRising}
use Rattle.mq_blocks.specs.Windows.{number_at, window}
use Rattle.mq_loose_order.specs.Form.{number_bytes}
use Rattle.mq_loose_recover.specs.Reading.{wide_numbers}

-- ---- in a block

-- the list that one more number makes
wide-suc : (n : ℕ) (xs : List ℕ) → wide_numbers (suc n) xs ≡ wide_numbers n xs ++ number_at 8 (8 * n) xs ∷ []
unfolding wide_numbers
wide-suc zero xs = refl
wide-suc (suc n) xs =
    let e : 8 + 8 * n ≡ 8 * suc n = omega arith in
    let f : number_at 8 (8 * n) (drop 8 xs) ≡ number_at 8 (8 * suc n) xs = number_at-drop 8 (8 * n) 8 xs ∙ ap (λ (k : ℕ). number_at 8 k xs) e in
    ap (λ (ys : List ℕ). number_at 8 0 xs ∷ ys) (wide-suc n (drop 8 xs)) ∙ ap (λ (y : ℕ). number_at 8 0 xs ∷ (wide_numbers n (drop 8 xs) ++ y ∷ [])) f

pub wide-more : (n at : ℕ) (b : List ℕ) (x : ℕ) → x ≡ number_at 8 (at + 8 * n) b → wide_numbers (n + 1) (drop at b) ≡ wide_numbers n (drop at b) ++ x ∷ []
wide-more n at b x e =
    let s : n + 1 ≡ suc n = omega arith in
    ap (λ (k : ℕ). wide_numbers k (drop at b)) s ∙ wide-suc n (drop at b) ∙ ap (λ (y : ℕ). wide_numbers n (drop at b) ++ y ∷ []) (number_at-drop 8 (8 * n) at b ∙ sym e)

pub wide-none : (xs : List ℕ) → wide_numbers 0 xs ≡ []
unfolding wide_numbers
wide-none xs = refl

pub length-wide : (n : ℕ) (xs : List ℕ) → length (wide_numbers n xs) ≡ n
unfolding wide_numbers
length-wide zero xs = refl
length-wide (suc n) xs = omega (arith, length-wide n (drop 8 xs))

number_at-8 : (x : ℕ) (rest : List ℕ) → x < 2 ^ 64 → number_at 8 0 (to_le_bytes w64 x ++ rest) ≡ x
unfolding number_at
number_at-8 x rest h = little_number-reads_back 8 x rest h

-- numbers that were written are read back
pub wide-number_bytes : (low high : ℕ) (ns rest : List ℕ) (n : ℕ) → high ≤ 2 ^ 64 → AreRising low high ns → n ≡ length ns → wide_numbers n (number_bytes ns ++ rest) ≡ ns
unfolding wide_numbers
wide-number_bytes low high [] rest zero h r e = refl
wide-number_bytes low high [] rest (suc n) h r e = absurd (omega arith)
wide-number_bytes low high (x ∷ xs) rest zero h r e = absurd (omega arith)
wide-number_bytes low high (x ∷ xs) rest (suc n) h r e =
    let t = r.1 in
    let first = number_at-8 x (number_bytes xs ++ rest) (omega arith) in
    let others = wide-number_bytes (x + 1) high xs rest n h r.2 (omega arith) in
    ap (λ (y : ℕ). y ∷ wide_numbers n (number_bytes xs ++ rest)) first ∙ ap (λ (ys : List ℕ). x ∷ ys) others

-- the bytes that numbers were read from are theirs
pub number_bytes-wide : (n at : ℕ) (b : List ℕ) → at + 8 * n ≤ length b → ((i : ℕ) → get_or b i 0 < 256) → number_bytes (wide_numbers n (drop at b)) ≡ window b at (8 * n)
unfolding wide_numbers
number_bytes-wide zero at b h small = refl
number_bytes-wide (suc n) at b h small =
    let first : to_le_bytes w64 (number_at 8 0 (drop at b)) ≡ window b at 8 =
    ap (to_le_bytes w64) (number_at-drop 8 0 at b ∙ ap (λ (k : ℕ). number_at 8 k b) (add-zero at)) ∙ bytes-number_at_8 at b (omega arith) small in
    let others : number_bytes (wide_numbers n (drop 8 (drop at b))) ≡ window b (at + 8) (8 * n) =
    ap (λ (xs : List ℕ). number_bytes (wide_numbers n xs)) (drop-drop 8 at b) ∙ number_bytes-wide n (at + 8) b (omega arith) small in
    let e : 8 * suc n ≡ 8 + 8 * n = omega arith in
    ap (λ (xs : List ℕ). xs ++ number_bytes (wide_numbers n (drop 8 (drop at b)))) first ∙ ap (λ (xs : List ℕ). window b at 8 ++ xs) others ∙ sym (window-add b at 8 (8 * n)) ∙ ap (λ (k : ℕ). window b at k) (sym e)

-- ---- rising, entry by entry

pub rising-step : (low high : ℕ) (xs : List ℕ) (i x : ℕ) → i < length xs → x ≡ get_or xs i 0 → AreRising low high (take i xs) → next_above low (take i xs) ≤ x → x < high → AreRising low high (take (i + 1) xs)
rising-step low high xs i x l e r n h =
    let P : List ℕ → Type 0 = λ ys. AreRising low high ys in
    subst P (ap (λ (y : ℕ). take i xs ++ y ∷ []) e ∙ sym (take_more xs i 0 l)) (rising-push low high (take i xs) x r n h)

pub next_above-step : (low : ℕ) (xs : List ℕ) (i x : ℕ) → i < length xs → x ≡ get_or xs i 0 → next_above low (take (i + 1) xs) ≡ x + 1
next_above-step low xs i x l e = ap (next_above low) (take_more xs i 0 l) ∙ next_above-push low (take i xs) (get_or xs i 0) ∙ ap (λ (y : ℕ). y + 1) (sym e)

rising-stop : (low high : ℕ) (xs : List ℕ) (i x : ℕ) → i < length xs → x ≡ get_or xs i 0 → AreRising low high (take (i + 1) xs) → (next_above low (take i xs) ≤ x) × (x < high)
rising-stop low high xs i x l e r =
    let P : List ℕ → Type 0 = λ ys. AreRising low high ys in
    rising-pushed low high (take i xs) x (subst P (take_more xs i 0 l ∙ ap (λ (y : ℕ). take i xs ++ y ∷ []) (sym e)) r)

pub unordered-stop : (first high : ℕ) (xs : List ℕ) (i x low : ℕ) → i < length xs → x ≡ get_or xs i 0 → low ≡ next_above first (take i xs) → AreRising first high (take i xs) → (x < low) ⊎ (high ≤ x) → StopsAt (AreRising first high) xs i
unordered-stop first high xs i x low l e n r w = (l, r, λ s. let t = rising-stop first high xs i x l e s in elim w [ inl a ↦ omega arith | inr b ↦ omega arith ])
