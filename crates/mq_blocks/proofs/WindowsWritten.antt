-- One write after another in a block.
use Rattle.std.proofs.Common.{get_or, ◌≡◌, ℕ, ◌+◌, ◌*◌, ◌<◌, ◌≤◌, List, [], ◌∷◌, ◌++◌, length, take, refl, sym, ap, ◌∙◌, arith, length-append, length-take, length-drop}
use Rattle.std.proofs.lemmas.List.{take_more, length-take-le, places, same_lists, append-nil, drop-drop, drop_all}
use Rattle.std.specs.Int.{to_le_bytes, w32}
use Rattle.mq_blocks.specs.Descriptor.{list_bytes}
use Rattle.mq_blocks.specs.Windows.{written}
use borrow.Rule.Slice.PartMut.{put_mid}

pub length-written : (b : List ℕ) (at : ℕ) (xs : List ℕ) → at + length xs ≤ length b → length (written b at xs) ≡ length b
unfolding written
length-written b at xs h = simp (length-append, length-take, length-drop) (omega arith)

-- a write right behind another is one write
pub written-then : (b : List ℕ) (at : ℕ) (xs : List ℕ) (p : ℕ) (ys : List ℕ) → p ≡ at + length xs → p + length ys ≤ length b → written (written b at xs) p ys ≡ written b at (xs ++ ys)
unfolding written
written-then b at xs p ys e h = same_lists _ _ (simp (length-append, length-take, length-drop) (omega arith)) (λ k d l. grind (arith, places))

pub written-nothing : (b : List ℕ) (at : ℕ) → written b at [] ≡ b
unfolding written
written-nothing b at = grind (arith, places)

pub written-all : (b : List ℕ) (xs : List ℕ) → length xs ≡ length b → written b 0 xs ≡ xs
unfolding written
written-all b xs e = rw (drop_all (0 + length xs) b (omega arith), append-nil) refl

pub put_mid-written : (b : List ℕ) (a k : ℕ) (xs ys : List ℕ) → ys ≡ xs → k ≡ length xs → put_mid a k b ys ≡ written b a xs
unfolding written
put_mid-written b a k xs ys e n = rw (e, n, drop-drop) refl

pub length-list_bytes : (bs : List ℕ) → length (list_bytes bs) ≡ 4 * length bs
length-list_bytes [] = refl
length-list_bytes (b ∷ bs) = omega (arith, length-list_bytes bs)

pub list_bytes-append : (bs cs : List ℕ) → list_bytes (bs ++ cs) ≡ list_bytes bs ++ list_bytes cs
list_bytes-append [] cs = refl
list_bytes-append (b ∷ bs) cs = ap (λ (xs : List ℕ). to_le_bytes w32 b ++ xs) (list_bytes-append bs cs)

-- the same, onto what was written from the start of a block on
pub written-more : (b b₁ b₂ : List ℕ) (xs : List ℕ) (p : ℕ) (ys : List ℕ) → b₁ ≡ written b 0 xs → b₂ ≡ written b₁ p ys → p ≡ length xs → p + length ys ≤ length b → b₂ ≡ written b 0 (xs ++ ys)
written-more b b₁ b₂ xs p ys e f n h = f ∙ ap (λ (w : List ℕ). written w p ys) e ∙ written-then b 0 xs p ys (omega arith) h

-- one more block of a list
pub list-written : (b b₁ b₂ : List ℕ) (at : ℕ) (list : List ℕ) (i p x : ℕ) → b₁ ≡ written b at (list_bytes (take i list)) → b₂ ≡ written b₁ p (to_le_bytes w32 x) → i < length list → x ≡ get_or list i 0 → p ≡ at + 4 * i → at + 4 * length list ≤ length b
    → b₂ ≡ written b at (list_bytes (take (i + 1) list))
list-written b b₁ b₂ at list i p x e f l g n h =
    let lower : length (take i list) ≡ i = length-take-le i list (omega arith) in
    let len : length (list_bytes (take i list)) ≡ 4 * i = length-list_bytes (take i list) ∙ ap (λ (k : ℕ). 4 * k) lower in
    let step : list_bytes (take (i + 1) list) ≡ list_bytes (take i list) ++ to_le_bytes w32 x =
    ap list_bytes (take_more list i 0 l) ∙ list_bytes-append (take i list) (get_or list i 0 ∷ []) ∙ ap (λ (y : ℕ). list_bytes (take i list) ++ to_le_bytes w32 y) (sym g) in
    f ∙ ap (λ (w : List ℕ). written w p (to_le_bytes w32 x)) e ∙ written-then b at (list_bytes (take i list)) p (to_le_bytes w32 x) (omega arith) (omega arith) ∙ ap (λ (xs : List ℕ). written b at xs) (sym step)
