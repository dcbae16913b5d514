-- The writes of a descriptor, one after another.
use Rattle.std.proofs.Common.{◌≡◌, ◌⊎◌, inl, inr, ℕ, ◌+◌, ◌-◌, ◌*◌, ◌<◌, ◌≤◌, List, [], ◌++◌, length, take, drop, replicate, refl, sym, ap, ◌∙◌, arith, append_assoc, length-append}
use Rattle.std.proofs.lemmas.Bool.{cases_lt}
use Rattle.std.proofs.lemmas.List.{length-replicate, length-take-le, length-drop, append-nil, take_all, drop_all, take_at, drop_at, take-append-drop}
use Rattle.std.specs.Int.{to_le_bytes, w32, w64}
use Rattle.mq_blocks.specs.Descriptor.{Descriptor, descriptor_text, form_with, further, further_block, further_for, header_bytes, last_block, list_bytes}
use Rattle.mq_blocks.specs.Windows.{written}
use Rattle.mq_blocks.proofs.DescriptorLimits.{further-none, further-one}
use Rattle.mq_blocks.proofs.WindowsWritten.{length-list_bytes, list_bytes-append, written-all, written-more}

pub length-header_bytes : (magic version : ℕ) (d : Descriptor) → length (header_bytes magic version d) ≡ 56
unfolding header_bytes
length-header_bytes magic version d = refl

pub header-written : (magic version : ℕ) (b b₁ b₂ b₃ b₄ b₅ b₆ b₇ b₈ b₉ : List ℕ) (d : Descriptor) → length b ≡ 4096
    → b₁ ≡ written b 0 (to_le_bytes w64 magic) → b₂ ≡ written b₁ 8 (to_le_bytes w32 version) → b₃ ≡ written b₂ 12 (to_le_bytes w32 d.queue) → b₄ ≡ written b₃ 16 (to_le_bytes w64 d.number)
    → b₅ ≡ written b₄ 24 (to_le_bytes w64 d.place) → b₆ ≡ written b₅ 32 (to_le_bytes w64 d.prev_place) → b₇ ≡ written b₆ 40 (to_le_bytes w64 d.prev_number)
    → b₈ ≡ written b₇ 48 (to_le_bytes w32 (length d.logged)) → b₉ ≡ written b₈ 52 (to_le_bytes w32 (length d.revoked)) → b₉ ≡ written b 0 (header_bytes magic version d)
unfolding header_bytes
header-written magic version b b₁ b₂ b₃ b₄ b₅ b₆ b₇ b₈ b₉ d whole e₁ e₂ e₃ e₄ e₅ e₆ e₇ e₈ e₉ =
    let f₂ = written-more b b₁ b₂ _ 8 _ e₁ e₂ refl (omega arith) in
    let f₃ = written-more b b₂ b₃ _ 12 _ f₂ e₃ refl (omega arith) in
    let f₄ = written-more b b₃ b₄ _ 16 _ f₃ e₄ refl (omega arith) in
    let f₅ = written-more b b₄ b₅ _ 24 _ f₄ e₅ refl (omega arith) in
    let f₆ = written-more b b₅ b₆ _ 32 _ f₅ e₆ refl (omega arith) in
    let f₇ = written-more b b₆ b₇ _ 40 _ f₆ e₇ refl (omega arith) in
    let f₈ = written-more b b₇ b₈ _ 48 _ f₇ e₈ refl (omega arith) in
    written-more b b₈ b₉ _ 52 _ f₈ e₉ refl (omega arith)

-- where the lists are cut: as many entries as fit stand in the last block
pub record IsCut (logged revoked a r : ℕ) : Type 0 where
  pub a_most : a ≤ logged
  pub r_most : r ≤ revoked
  pub split : (a ≡ logged) ⊎ (r ≡ 0)
  pub all : logged + revoked ≤ 1010 → (a ≡ logged) × (r ≡ revoked)
  pub full : 1010 < logged + revoked → a + r ≡ 1010

pub cut-of : (logged revoked a r : ℕ) → a ≤ logged → a ≤ 1010 → (a < 1010 → a ≡ logged) → r ≤ revoked → r ≤ 1010 - a → (r < 1010 - a → r ≡ revoked) → IsCut logged revoked a r
cut-of logged revoked a r few fits most fewer fit rest = record {
  a_most = few;
  r_most = fewer;
  split = elim (cases_lt a 1010) [ inl l ↦ inl (most l) | inr l ↦ inr (omega arith) ];
  all = λ h. elim (cases_lt a 1010) [
    | inl l ↦ (most l, elim (cases_lt r (1010 - a)) [ inl k ↦ rest k | inr k ↦ let m = most l in omega arith ])
    | inr l ↦ (omega arith, omega arith)
  ];
  full = λ h. elim (cases_lt r (1010 - a)) [
    | inl k ↦ elim (cases_lt a 1010) [ inl l ↦ let m = most l in let n = rest k in absurd (omega arith) | inr l ↦ omega arith ]
    | inr k ↦ omega arith
  ];
}

list-split : (n : ℕ) (bs : List ℕ) → list_bytes (take n bs) ++ list_bytes (drop n bs) ≡ list_bytes bs
list-split n bs = sym (list_bytes-append (take n bs) (drop n bs)) ∙ ap list_bytes (take-append-drop n bs)

lists-split : (logged revoked : List ℕ) (a r : ℕ) → (a ≡ length logged) ⊎ (r ≡ 0)
    → list_bytes logged ++ list_bytes revoked ≡ (list_bytes (take a logged) ++ list_bytes (take r revoked)) ++ (list_bytes (drop a logged) ++ list_bytes (drop r revoked))
lists-split logged revoked a r s = elim s [
  | inl e ↦
      let t : take a logged ≡ logged = take_all a logged (omega arith) in
      let d : drop a logged ≡ [] = drop_all a logged (omega arith) in
      rw (t, d) (sym (append_assoc (list_bytes logged) (list_bytes (take r revoked)) (list_bytes (drop r revoked)) ∙ ap (λ (xs : List ℕ). list_bytes logged ++ xs) (list-split r revoked)))
  | inr e ↦
      rw (e, append-nil) (sym (sym (append_assoc (list_bytes (take a logged)) (list_bytes (drop a logged)) (list_bytes revoked)) ∙ ap (λ (xs : List ℕ). xs ++ list_bytes revoked) (list-split a logged)))
]

abbrev zeros_after : Descriptor → List ℕ
zeros_after d = replicate (4096 * (further d + 1) - (56 + 4 * length d.logged + 4 * length d.revoked)) 0

-- the text, cut there
descriptor-parts : (magic version : ℕ) (d : Descriptor) (a r : ℕ) → (a ≡ length d.logged) ⊎ (r ≡ 0)
    → descriptor_text magic version d ≡ (header_bytes magic version d ++ (list_bytes (take a d.logged) ++ list_bytes (take r d.revoked))) ++ ((list_bytes (drop a d.logged) ++ list_bytes (drop r d.revoked)) ++ zeros_after d)
unfolding descriptor_text
descriptor-parts magic version d a r s =
    let h = header_bytes magic version d in
    let l = list_bytes d.logged in
    let m = list_bytes d.revoked in
    let z = zeros_after d in
    let p = list_bytes (take a d.logged) ++ list_bytes (take r d.revoked) in
    let q = list_bytes (drop a d.logged) ++ list_bytes (drop r d.revoked) in
    append_assoc (h ++ l) m z ∙ append_assoc h l (m ++ z) ∙ ap (λ (xs : List ℕ). h ++ xs) (sym (append_assoc l m z)) ∙ ap (λ (xs : List ℕ). h ++ (xs ++ z)) (lists-split d.logged d.revoked a r s)
    ∙ ap (λ (xs : List ℕ). h ++ xs) (append_assoc p q z) ∙ sym (append_assoc h p (q ++ z))

length-cut : (n : ℕ) (bs : List ℕ) → n ≤ length bs → length (list_bytes (take n bs)) ≡ 4 * n
length-cut n bs h = length-list_bytes (take n bs) ∙ ap (λ (k : ℕ). 4 * k) (length-take-le n bs h)

length-left : (n : ℕ) (bs : List ℕ) → length (list_bytes (drop n bs)) ≡ 4 * (length bs - n)
length-left n bs = length-list_bytes (drop n bs) ∙ ap (λ (k : ℕ). 4 * k) (length-drop n bs)

-- the text of a descriptor that has one block
one-block : (magic version : ℕ) (d : Descriptor) → length d.logged + length d.revoked ≤ 1010 → last_block (form_with magic version) version d ≡ header_bytes magic version d ++ list_bytes d.logged ++ list_bytes d.revoked ++ replicate (4096 - (56 + 4 * length d.logged + 4 * length d.revoked)) 0
unfolding last_block descriptor_text
one-block magic version d few =
    let f : further d ≡ 0 = further-none (length d.logged + length d.revoked) few in
    let n : 4096 * (further d + 1) - (56 + 4 * length d.logged + 4 * length d.revoked) ≡ 4096 - (56 + 4 * length d.logged + 4 * length d.revoked) = omega arith in
    let k = 4096 - (56 + 4 * length d.logged + 4 * length d.revoked) in
    let z : length {A = ℕ} (replicate {A = ℕ} k 0) ≡ k = length-replicate {A = ℕ} k 0 in
    let text = header_bytes magic version d ++ list_bytes d.logged ++ list_bytes d.revoked ++ replicate k 0 in
    let size : length text ≤ 4096 = omega (arith, length-header_bytes magic version d, length-list_bytes d.logged, length-list_bytes d.revoked, length-append (header_bytes magic version d) (list_bytes d.logged), length-append (header_bytes magic version d ++ list_bytes d.logged) (list_bytes d.revoked), length-append (header_bytes magic version d ++ list_bytes d.logged ++ list_bytes d.revoked) (replicate k 0)) in
    ap (λ (j : ℕ). take 4096 (header_bytes magic version d ++ list_bytes d.logged ++ list_bytes d.revoked ++ replicate j 0)) n ∙ take_all 4096 text size

-- of one that has two
two-blocks : (magic version : ℕ) (d : Descriptor) (a r : ℕ) → 1010 < length d.logged + length d.revoked → IsCut (length d.logged) (length d.revoked) a r
    → (last_block (form_with magic version) version d ≡ header_bytes magic version d ++ (list_bytes (take a d.logged) ++ list_bytes (take r d.revoked)))
    × (further_block (form_with magic version) version d ≡ (list_bytes (drop a d.logged) ++ list_bytes (drop r d.revoked)) ++ replicate (8136 - (4 * length d.logged + 4 * length d.revoked)) 0)
unfolding last_block further_block
two-blocks magic version d a r many c =
    let f : further d ≡ 1 = further-one (length d.logged + length d.revoked) many in
    let full = c.full many in
    let p = header_bytes magic version d ++ (list_bytes (take a d.logged) ++ list_bytes (take r d.revoked)) in
    let q = list_bytes (drop a d.logged) ++ list_bytes (drop r d.revoked) in
    let s = descriptor-parts magic version d a r c.split in
    let n : 4096 * (further d + 1) - (56 + 4 * length d.logged + 4 * length d.revoked) ≡ 8136 - (4 * length d.logged + 4 * length d.revoked) = omega arith in
    let long : length p ≡ 4096 =
    omega (arith, length-header_bytes magic version d, length-cut a d.logged c.a_most, length-cut r d.revoked c.r_most, length-append (list_bytes (take a d.logged)) (list_bytes (take r d.revoked)), length-append (header_bytes magic version d) (list_bytes (take a d.logged) ++ list_bytes (take r d.revoked))) in (
      ap (λ (xs : List ℕ). take 4096 xs) s ∙ take_at p (q ++ zeros_after d) 4096 long,
      ap (λ (xs : List ℕ). drop 4096 xs) s ∙ drop_at p (q ++ zeros_after d) 4096 long ∙ ap (λ (j : ℕ). q ++ replicate j 0) n,
    )

-- the header, the entries that fit and the zeros behind them
pub last-written : (magic version : ℕ) (b b₁ b₂ b₃ b₄ : List ℕ) (d : Descriptor) (a r p q n : ℕ) → length b ≡ 4096 → IsCut (length d.logged) (length d.revoked) a r → p ≡ 56 + 4 * a → q ≡ p + 4 * r → n ≡ 4096 - q
    → b₁ ≡ written b 0 (header_bytes magic version d) → b₂ ≡ written b₁ 56 (list_bytes (take a d.logged)) → b₃ ≡ written b₂ p (list_bytes (take r d.revoked)) → b₄ ≡ written b₃ q (replicate n 0)
    → b₄ ≡ last_block (form_with magic version) version d
last-written magic version b b₁ b₂ b₃ b₄ d a r p q n whole c ep eq en e₁ e₂ e₃ e₄ =
    let h = header_bytes magic version d in
    let l = list_bytes (take a d.logged) in
    let m = list_bytes (take r d.revoked) in
    let nh = length-header_bytes magic version d in
    let nl : length l ≡ 4 * a = length-cut a d.logged c.a_most in
    let nm : length m ≡ 4 * r = length-cut r d.revoked c.r_most in
    let fits : a + r ≤ 1010 = (elim (cases_lt 1010 (length d.logged + length d.revoked)) [ inl k ↦ let x = c.full k in omega arith | inr k ↦ let x = c.all k in omega (arith, x.0, x.1) ]) in
    let z : length {A = ℕ} (replicate {A = ℕ} n 0) ≡ n = length-replicate {A = ℕ} n 0 in
    let n₂ : length (h ++ l) ≡ 56 + 4 * a = omega (arith, length-append h l) in
    let n₃ : length (h ++ l ++ m) ≡ q = omega (arith, length-append (h ++ l) m) in
    let n₄ : length (h ++ l ++ m ++ replicate n 0) ≡ length b = omega (arith, length-append (h ++ l ++ m) (replicate n 0)) in
    let f₂ = written-more b b₁ b₂ _ 56 _ e₁ e₂ (omega arith) (omega arith) in
    let f₃ = written-more b b₂ b₃ _ p _ f₂ e₃ (omega arith) (omega arith) in
    let f₄ = written-more b b₃ b₄ _ q _ f₃ e₄ (omega arith) (omega arith) in
    f₄ ∙ written-all b _ n₄ ∙ elim (cases_lt 1010 (length d.logged + length d.revoked)) [
      | inl many ↦
          let full = c.full many in
          let none : n ≡ 0 = omega arith in
          ap (λ (k : ℕ). h ++ l ++ m ++ replicate k 0) none ∙ append-nil (h ++ l ++ m) ∙ append_assoc h l m ∙ sym (two-blocks magic version d a r many c).0
      | inr few ↦
          let all = c.all few in
          let x : take a d.logged ≡ d.logged = take_all a d.logged (omega (arith, all.0)) in
          let y : take r d.revoked ≡ d.revoked = take_all r d.revoked (omega (arith, all.1)) in
          let k : n ≡ 4096 - (56 + 4 * length d.logged + 4 * length d.revoked) = omega (arith, all.0, all.1) in
          ap (λ (xs : List ℕ). h ++ list_bytes xs ++ m ++ replicate n 0) x ∙ ap (λ (xs : List ℕ). h ++ list_bytes d.logged ++ list_bytes xs ++ replicate n 0) y
          ∙ ap (λ (j : ℕ). h ++ list_bytes d.logged ++ list_bytes d.revoked ++ replicate j 0) k ∙ sym (one-block magic version d few)
    ]

-- the other entries and the zeros behind them
pub further-written : (magic version : ℕ) (b b₁ b₂ b₃ : List ℕ) (d : Descriptor) (a r p q n : ℕ) → length b ≡ 4096 → length d.logged + length d.revoked ≤ 2034 → 1010 < length d.logged + length d.revoked → IsCut (length d.logged) (length d.revoked) a r
    → p ≡ 4 * (length d.logged - a) → q ≡ p + 4 * (length d.revoked - r) → n ≡ 4096 - q
    → b₁ ≡ written b 0 (list_bytes (drop a d.logged)) → b₂ ≡ written b₁ p (list_bytes (drop r d.revoked)) → b₃ ≡ written b₂ q (replicate n 0)
    → b₃ ≡ further_block (form_with magic version) version d
further-written magic version b b₁ b₂ b₃ d a r p q n whole few many c ep eq en e₁ e₂ e₃ =
    let l = list_bytes (drop a d.logged) in
    let m = list_bytes (drop r d.revoked) in
    let full = c.full many in
    let am = c.a_most in
    let rm = c.r_most in
    let nl : length l ≡ 4 * (length d.logged - a) = length-left a d.logged in
    let nm : length m ≡ 4 * (length d.revoked - r) = length-left r d.revoked in
    let z : length {A = ℕ} (replicate {A = ℕ} n 0) ≡ n = length-replicate {A = ℕ} n 0 in
    let n₂ : length (l ++ m) ≡ q = omega (arith, length-append l m) in
    let n₃ : length (l ++ m ++ replicate n 0) ≡ length b = omega (arith, length-append (l ++ m) (replicate n 0)) in
    let f₂ = written-more b b₁ b₂ _ p _ e₁ e₂ (omega arith) (omega arith) in
    let f₃ = written-more b b₂ b₃ _ q _ f₂ e₃ (omega arith) (omega arith) in
    let k : n ≡ 8136 - (4 * length d.logged + 4 * length d.revoked) = omega arith in
    f₃ ∙ written-all b _ n₃ ∙ ap (λ (j : ℕ). l ++ m ++ replicate j 0) k ∙ sym (two-blocks magic version d a r many c).1
