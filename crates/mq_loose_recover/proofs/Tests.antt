-- Whether all numbers of a list pass a test, number by number.
use Rattle.std.proofs.Common.{◌≡◌, ℕ, zero, suc, ◌+◌, ◌*◌, ◌<◌, ◌≤◌, Bool, true, List, [], ◌∷◌, length, drop, get_or, refl, sym, ap, ◌∙◌, arith, drop-cons}
use Rattle.std.proofs.lemmas.List.{drop-drop}
use Rattle.std.specs.Prelude.{◌&&◌}
use Rattle.mq_blocks.proofs.WindowsReadings.{number_at-drop}
use Rattle.mq_blocks.specs.Windows.{number_at}
use Rattle.mq_loose_order.specs.Dependence.{all_in}
use Rattle.mq_loose_recover.specs.Reading.{wide_numbers}

-- a number of a list in a block
pub wide-at : (n at i : ℕ) (b : List ℕ) → i < n → get_or (wide_numbers n (drop at b)) i 0 ≡ number_at 8 (at + 8 * i) b
unfolding wide_numbers
wide-at zero at i b low = absurd (omega (arith, low))
wide-at (suc n) at zero b low = number_at-drop 8 0 at b
wide-at (suc n) at (suc i) b low =
    let e : at + 8 + 8 * i ≡ at + 8 * suc i = omega arith in
    ap (λ (xs : List ℕ). get_or (wide_numbers n xs) i 0) (drop-drop 8 at b) ∙ wide-at n (at + 8) i b (omega (arith, low)) ∙ ap (λ (k : ℕ). number_at 8 k b) e

pub all-next : (S : ℕ → Bool) (ns : List ℕ) (i x : ℕ) → i < length ns → x ≡ get_or ns i 0 → all_in S (drop i ns) ≡ (S x && all_in S (drop (i + 1) ns))
all-next S ns i x inside is =
    let next : suc i ≡ i + 1 = omega arith in
    ap (all_in S) (drop-cons ns i 0 inside) ∙ ap (λ (y : ℕ). S y && all_in S (drop (suc i) ns)) (sym is) ∙ ap (λ (k : ℕ). S x && all_in S (drop k ns)) next

pub all-none : (S : ℕ → Bool) (ns : List ℕ) (i : ℕ) → length ns ≤ i → all_in S (drop i ns) ≡ true
all-none S [] zero past = refl
all-none S [] (suc i) past = refl
all-none S (n ∷ ns) zero past = absurd (omega (arith, past))
all-none S (n ∷ ns) (suc i) past = all-none S ns i (omega (arith, past))
