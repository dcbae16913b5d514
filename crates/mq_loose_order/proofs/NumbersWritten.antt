-- Numbers of eight bytes each, one after another in a block, and the bytes of a descriptor of the loose order.
use Rattle.std.proofs.Common.{◌≡◌, ℕ, ◌+◌, ◌-◌, ◌*◌, ◌<◌, ◌≤◌, List, [], ◌∷◌, ◌++◌, length, take, get_or, replicate, refl, sym, ap, ◌∙◌, arith, length-append}
use Rattle.std.proofs.lemmas.List.{take_more, length-take-le, length-replicate}
use Rattle.std.specs.Int.{to_le_bytes, w64}
use Rattle.mq_blocks.specs.Descriptor.{Descriptor, header_bytes, list_bytes}
use Rattle.mq_blocks.specs.Windows.{written}
use Rattle.mq_blocks.proofs.WindowsWritten.{length-list_bytes, written-all, written-more, written-then}
use Rattle.mq_area.proofs.DescriptorWritten.{length-header_bytes}
use Rattle.mq_loose_order.specs.Form.{listing, loose_bytes, loose_magic, number_bytes}

pub length-number_bytes : (ns : List ℕ) → length (number_bytes ns) ≡ 8 * length ns
length-number_bytes [] = refl
length-number_bytes (n ∷ ns) = omega (arith, length-number_bytes ns)

number_bytes-append : (ms ns : List ℕ) → number_bytes (ms ++ ns) ≡ number_bytes ms ++ number_bytes ns
number_bytes-append [] ns = refl
number_bytes-append (m ∷ ms) ns = ap (λ (xs : List ℕ). to_le_bytes w64 m ++ xs) (number_bytes-append ms ns)

-- one more number
pub numbers-written : (b b₁ b₂ : List ℕ) (at : ℕ) (list : List ℕ) (i p x : ℕ) → b₁ ≡ written b at (number_bytes (take i list)) → b₂ ≡ written b₁ p (to_le_bytes w64 x) → i < length list → x ≡ get_or list i 0 → p ≡ at + 8 * i → at + 8 * length list ≤ length b
    → b₂ ≡ written b at (number_bytes (take (i + 1) list))
numbers-written b b₁ b₂ at list i p x e f l g n h =
    let lower : length (take i list) ≡ i = length-take-le i list (omega arith) in
    let len : length (number_bytes (take i list)) ≡ 8 * i = length-number_bytes (take i list) ∙ ap (λ (k : ℕ). 8 * k) lower in
    let step : number_bytes (take (i + 1) list) ≡ number_bytes (take i list) ++ to_le_bytes w64 x =
    ap number_bytes (take_more list i 0 l) ∙ number_bytes-append (take i list) (get_or list i 0 ∷ []) ∙ ap (λ (y : ℕ). number_bytes (take i list) ++ to_le_bytes w64 y) (sym g) in
    f ∙ ap (λ (w : List ℕ). written w p (to_le_bytes w64 x)) e ∙ written-then b at (number_bytes (take i list)) p (to_le_bytes w64 x) (omega arith) (omega arith) ∙ ap (λ (xs : List ℕ). written b at xs) (sym step)

-- the header, the two lists and the zeros behind them
pub loose-written : (b b₁ b₂ b₃ b₄ : List ℕ) (d : Descriptor) (deps : List ℕ) (q r n : ℕ) → length b ≡ 4096 → length d.logged ≤ 256 → length deps ≤ 256 → q ≡ 56 + 4 * length d.logged → r ≡ q + 8 * length deps → n ≡ 4096 - r
    → b₁ ≡ written b 0 (header_bytes loose_magic 1 (listing deps d)) → b₂ ≡ written b₁ 56 (list_bytes d.logged) → b₃ ≡ written b₂ q (number_bytes deps) → b₄ ≡ written b₃ r (replicate n 0) → b₄ ≡ loose_bytes d deps
unfolding loose_bytes
loose-written b b₁ b₂ b₃ b₄ d deps q r n whole few dfew eq er en e₁ e₂ e₃ e₄ =
    let h = header_bytes loose_magic 1 (listing deps d) in
    let l = list_bytes d.logged in
    let m = number_bytes deps in
    let nh = length-header_bytes loose_magic 1 (listing deps d) in
    let nl = length-list_bytes d.logged in
    let nm = length-number_bytes deps in
    let z : length {A = ℕ} (replicate {A = ℕ} n 0) ≡ n = length-replicate {A = ℕ} n 0 in
    let n₂ : length (h ++ l) ≡ 56 + 4 * length d.logged = omega (arith, length-append h l) in
    let n₃ : length (h ++ l ++ m) ≡ r = omega (arith, length-append (h ++ l) m) in
    let n₄ : length (h ++ l ++ m ++ replicate n 0) ≡ length b = omega (arith, length-append (h ++ l ++ m) (replicate n 0)) in
    let f₂ = written-more b b₁ b₂ _ 56 _ e₁ e₂ (omega arith) (omega arith) in
    let f₃ = written-more b b₂ b₃ _ q _ f₂ e₃ (omega arith) (omega arith) in
    let f₄ = written-more b b₃ b₄ _ r _ f₃ e₄ (omega arith) (omega arith) in
    let k : n ≡ 4096 - (56 + 4 * length d.logged + 8 * length deps) = omega arith in
    f₄ ∙ written-all b _ n₄ ∙ ap (λ (j : ℕ). h ++ l ++ m ++ replicate j 0) k
