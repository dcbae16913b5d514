-- What stands where in a block.
use Rattle.std.proofs.Common.{get_or, ◌≡◌, ℕ, zero, suc, add-zero, ◌+◌, ◌*◌, ◌^◌, ◌<◌, ◌≤◌, ◌⊎◌, inl, inr, List, [], ◌∷◌, ◌++◌, length, take, drop, refl, sym, ap, ◌∙◌, arith, length-append, length-take, length-drop}
use Rattle.std.proofs.lemmas.List.{places, same_lists, take_at, drop_at, drop-drop, drop-take, take-take, take-append-drop, length-take-le, get_or-take, get_or-drop}
use Rattle.std.specs.Int.{to_le_bytes, bytes_low_first, w32}
use Rattle.std.specs.List.{All}
use Rattle.byteorder.specs.Endian.{little_number}
use Rattle.byteorder.specs.Numbers.{little_number-reads_back, little_from-take, length-bytes_low_first}
use Rattle.mq_blocks.specs.Descriptor.{list_bytes}
use Rattle.mq_blocks.specs.Windows.{window, written, number_at, numbers, Shows}
use Rattle.mq_blocks.proofs.WindowsReadings.{window-add, number_at-drop}

-- ---- parts

pub shows-join : (b : List ℕ) (p : ℕ) (xs : List ℕ) (q : ℕ) (ys : List ℕ) → Shows b p xs → q ≡ p + length xs → Shows b q ys → Shows b p (xs ++ ys)
shows-join b p xs q ys s e t =
    let other : window b (p + length xs) (length ys) ≡ ys = ap (λ (k : ℕ). window b k (length ys)) (sym e) ∙ t in
    ap (λ (n : ℕ). window b p n) (length-append xs ys) ∙ window-add b p (length xs) (length ys)
    ∙ ap (λ (w : List ℕ). w ++ window b (p + length xs) (length ys)) s ∙ ap (λ (w : List ℕ). xs ++ w) other

pub shows-left : (b : List ℕ) (p : ℕ) (xs ys : List ℕ) → Shows b p (xs ++ ys) → Shows b p xs
shows-left b p xs ys s =
    let l : length xs ≤ length (xs ++ ys) = omega (arith, length-append xs ys) in
    sym (take-take (length xs) (length (xs ++ ys)) (drop p b) l) ∙ ap (λ (w : List ℕ). take (length xs) w) s ∙ take_at xs ys (length xs) refl

pub shows-right : (b : List ℕ) (p : ℕ) (xs : List ℕ) (q : ℕ) (ys : List ℕ) → Shows b p (xs ++ ys) → q ≡ p + length xs → Shows b q ys
shows-right b p xs q ys s e =
    ap (λ (k : ℕ). window b k (length ys)) e ∙ ap (λ (w : List ℕ). take (length ys) w) (sym (drop-drop (length xs) p b)) ∙ sym (drop-take (length xs) (length ys) (drop p b))
    ∙ ap (λ (n : ℕ). drop (length xs) (take n (drop p b))) (sym (length-append xs ys)) ∙ ap (λ (w : List ℕ). drop (length xs) w) s ∙ drop_at xs ys (length xs) refl

-- byte by byte
pub shows-at : (b : List ℕ) (p : ℕ) (xs : List ℕ) (k : ℕ) → Shows b p xs → k < length xs → get_or b (p + k) 0 ≡ get_or xs k 0
shows-at b p xs k s l = sym (get_or-drop p b k 0) ∙ sym (get_or-take (length xs) (drop p b) k 0 l) ∙ ap (λ (w : List ℕ). get_or w k 0) s

pub shows-all : (b : List ℕ) (p : ℕ) (xs : List ℕ) → p + length xs ≤ length b → ((k : ℕ) → k < length xs → get_or b (p + k) 0 ≡ get_or xs k 0) → Shows b p xs
shows-all b p xs h f =
    let len : length (window b p (length xs)) ≡ length xs = length-take-le (length xs) (drop p b) (omega (arith, length-drop p b)) in
    same_lists _ _ len (λ k d l. let low : k < length xs = omega arith in simp (get_or-take, get_or-drop) (grind (arith, places, f k low)))

-- ---- writes

pub shows-written : (b : List ℕ) (p : ℕ) (xs : List ℕ) → p + length xs ≤ length b → Shows (written b p xs) p xs
unfolding written
shows-written b p xs h =
    let len : length (take p b) ≡ p = length-take-le p b (omega arith) in
    rw (drop_at (take p b) (xs ++ drop (p + length xs) b) p len) (take_at xs _ (length xs) refl)

-- a write leaves what stands before and behind it
pub window-kept : (b : List ℕ) (p : ℕ) (xs : List ℕ) (q n : ℕ) → p + length xs ≤ length b → (q + n ≤ p) ⊎ (p + length xs ≤ q) → window (written b p xs) q n ≡ window b q n
unfolding written
window-kept b p xs q n h (inl low) = same_lists _ _ (simp (length-append, length-take, length-drop) (omega arith)) (λ k d l. let small : k < n = omega (arith, length-take n (drop q (written b p xs))) in simp (get_or-take, get_or-drop) (grind (arith, places)))
window-kept b p xs q n h (inr high) = same_lists _ _ (simp (length-append, length-take, length-drop) (omega arith)) (λ k d l. let small : k < n = omega (arith, length-take n (drop q (written b p xs))) in simp (get_or-take, get_or-drop) (grind (arith, places)))

pub shows-kept : (b : List ℕ) (p : ℕ) (xs : List ℕ) (q : ℕ) (ys : List ℕ) → p + length xs ≤ length b → (q + length ys ≤ p) ⊎ (p + length xs ≤ q) → Shows b q ys → Shows (written b p xs) q ys
shows-kept b p xs q ys h apart s = window-kept b p xs q (length ys) h apart ∙ s

-- ---- numbers

-- a number is that of the bytes that stand there
pub number-shown : (b : List ℕ) (p size x : ℕ) → x < 256 ^ size → Shows b p (bytes_low_first 0 size x) → number_at size p b ≡ x
unfolding number_at
number-shown b p size x h s =
    let rest = drop size (drop p b) in
    let first : take size (drop p b) ≡ bytes_low_first 0 size x = ap (λ (n : ℕ). take n (drop p b)) (sym (length-bytes_low_first 0 size x)) ∙ s in
    let all : drop p b ≡ bytes_low_first 0 size x ++ rest = sym (take-append-drop size (drop p b)) ∙ ap (λ (w : List ℕ). w ++ rest) first in
    ap (little_number size) all ∙ little_number-reads_back size x rest h

pub numbers-shown : (b : List ℕ) (p : ℕ) (xs : List ℕ) → All (λ x. x < 2 ^ 32) xs → Shows b p (list_bytes xs) → numbers (length xs) (drop p b) ≡ xs
unfolding numbers
numbers-shown b p [] low s = refl
numbers-shown b p (x ∷ xs) low s =
    let first : number_at 4 0 (drop p b) ≡ x = number_at-drop 4 0 p b ∙ ap (λ (k : ℕ). number_at 4 k b) (add-zero p) ∙ number-shown b p 4 x (low 0 0 (omega arith)) (shows-left b p (to_le_bytes w32 x) (list_bytes xs) s) in
    let others : numbers (length xs) (drop 4 (drop p b)) ≡ xs =
    ap (λ (w : List ℕ). numbers (length xs) w) (drop-drop 4 p b)
    ∙ numbers-shown b (p + 4) xs (λ k d l. low (suc k) d (omega arith)) (shows-right b p (to_le_bytes w32 x) (p + 4) (list_bytes xs) s refl) in
    ap (λ (y : ℕ). y ∷ numbers (length xs) (drop 4 (drop p b))) first ∙ ap (λ (ys : List ℕ). x ∷ ys) others

-- the numbers of a list, one by one
pub numbers-at : (n : ℕ) (b : List ℕ) (p k : ℕ) → k < n → get_or (numbers n (drop p b)) k 0 ≡ number_at 4 (p + 4 * k) b
unfolding numbers
numbers-at zero b p k l = absurd (omega arith)
numbers-at (suc n) b p zero l = number_at-drop 4 0 p b
numbers-at (suc n) b p (suc k) l =
    let e : p + 4 + 4 * k ≡ p + 4 * suc k = omega arith in
    ap (λ (w : List ℕ). get_or (numbers n w) k 0) (drop-drop 4 p b) ∙ numbers-at n b (p + 4) k (omega arith) ∙ ap (λ (q : ℕ). number_at 4 q b) e

-- a number is that of its own bytes
pub number-kept : (b : List ℕ) (p : ℕ) (xs : List ℕ) (q size : ℕ) → p + length xs ≤ length b → (q + size ≤ p) ⊎ (p + length xs ≤ q) → number_at size q (written b p xs) ≡ number_at size q b
unfolding number_at
number-kept b p xs q size h apart =
    sym (little_from-take 0 size size (drop q (written b p xs)) (omega arith)) ∙ ap (little_number size) (window-kept b p xs q size h apart) ∙ little_from-take 0 size size (drop q b) (omega arith)
