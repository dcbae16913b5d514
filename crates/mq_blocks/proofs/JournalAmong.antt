-- Which numbers a list has.
use Rattle.std.proofs.Common.{get_or, ◌≡◌, ◌≢◌, ℕ, ◌+◌, suc, zero, ◌<◌, ◌≤◌, ◌⊎◌, inl, inr, List, [], ◌∷◌, ◌++◌, length, Bool, true, false, cond, refl, sym, ap, subst, ◌∙◌, arith, eqb}
use Rattle.std.specs.Prelude.{nat_eq}
use Rattle.std.specs.List.{Contains}
use Rattle.std.proofs.lemmas.Bool.{cases_Bool, cases_eq, eq-eqb, eqb-true, eqb-false, ne_eqb, true≢false, false≢true}
use Rattle.std.proofs.lemmas.List.{get_or_default}
use Rattle.mq_blocks.specs.Descriptor.{AreRising, AreApart, IsNoneOf}
use Rattle.mq_blocks.specs.Journal.{is_among}

pub among-left : (xs ys : List ℕ) (b : ℕ) → is_among b xs ≡ true → is_among b (xs ++ ys) ≡ true
among-left [] ys b e = absurd (true≢false (sym e))
among-left (x ∷ xs) ys b e = elim (cases_Bool (nat_eq x b)) [
  | inl y ↦ ap (λ (t : Bool). cond t true (is_among b (xs ++ ys))) y
  | inr n ↦ ap (λ (t : Bool). cond t true (is_among b (xs ++ ys))) n ∙ among-left xs ys b (ap (λ (t : Bool). cond t true (is_among b xs)) (sym n) ∙ e)
]

pub among-right : (xs ys : List ℕ) (b : ℕ) → is_among b ys ≡ true → is_among b (xs ++ ys) ≡ true
among-right [] ys b e = e
among-right (x ∷ xs) ys b e = elim (cases_Bool (nat_eq x b)) [
  | inl y ↦ ap (λ (t : Bool). cond t true (is_among b (xs ++ ys))) y
  | inr n ↦ ap (λ (t : Bool). cond t true (is_among b (xs ++ ys))) n ∙ among-right xs ys b e
]

pub among-either : (xs ys : List ℕ) (b : ℕ) → is_among b (xs ++ ys) ≡ true → (is_among b xs ≡ true) ⊎ (is_among b ys ≡ true)
among-either [] ys b e = inr e
among-either (x ∷ xs) ys b e = elim (cases_Bool (nat_eq x b)) [
  | inl y ↦ inl (ap (λ (t : Bool). cond t true (is_among b xs)) y)
  | inr n ↦ elim (among-either xs ys b (ap (λ (t : Bool). cond t true (is_among b (xs ++ ys))) (sym n) ∙ e)) [
    | inl l ↦ inl (ap (λ (t : Bool). cond t true (is_among b xs)) n ∙ l)
    | inr r ↦ inr r
  ]
]

pub among-cons : (x b : ℕ) (bs : List ℕ) → is_among b (x ∷ bs) ≡ true → (b ≡ x) ⊎ (is_among b bs ≡ true)
among-cons x b bs e = elim (cases_Bool (nat_eq x b)) [
  | inl y ↦ inl (sym (eqb-true x b y))
  | inr n ↦ inr (ap (λ (t : Bool). cond t true (is_among b bs)) (sym n) ∙ e)
]

pub among-here : (b : ℕ) (bs : List ℕ) → is_among b (b ∷ bs) ≡ true
among-here b bs = ap (λ (t : Bool). cond t true (is_among b bs)) (eq-eqb b b refl)

pub among-behind : (x b : ℕ) (bs : List ℕ) → is_among b bs ≡ true → is_among b (x ∷ bs) ≡ true
among-behind x b bs e = among-right (x ∷ []) bs b e

pub among-one : (x b : ℕ) → is_among b (x ∷ []) ≡ true → b ≡ x
among-one x b e = elim (among-cons x b [] e) [
  | inl same ↦ same
  | inr none ↦ absurd (true≢false (sym none))
]

pub among-apart : (blocks : List ℕ) (b c : ℕ) → is_among b blocks ≡ true → is_among c blocks ≡ false → c ≢ b
among-apart blocks b c listed out e = true≢false (sym listed ∙ ap (λ (x : ℕ). is_among x blocks) (sym e) ∙ out)

pub among-parts : (xs ys : List ℕ) (b : ℕ) → is_among b (xs ++ ys) ≡ false → (is_among b xs ≡ false) × (is_among b ys ≡ false)
among-parts [] ys b e = (refl, e)
among-parts (x ∷ xs) ys b e = elim (cases_Bool (nat_eq x b)) [
  | inl y ↦ absurd (true≢false (ap (λ (t : Bool). cond t true (is_among b (xs ++ ys))) (sym y) ∙ e))
  | inr n ↦
      let r = among-parts xs ys b (ap (λ (t : Bool). cond t true (is_among b (xs ++ ys))) (sym n) ∙ e) in
      (ap (λ (t : Bool). cond t true (is_among b xs)) n ∙ r.0, r.1)
]

pub among-push : (xs : List ℕ) (b c : ℕ) → c ≢ b → is_among c (xs ++ b ∷ []) ≡ is_among c xs
among-push [] b c other = let n = ne_eqb b c (λ e. other (sym e)) in ap (λ (t : Bool). cond t true false) n
among-push (x ∷ xs) b c other = ap (λ (t : Bool). cond (nat_eq x c) true t) (among-push xs b c other)

pub among-at : (xs : List ℕ) (b : ℕ) → is_among b xs ≡ true → (k : ℕ) × (k < length xs) × (get_or xs k 0 ≡ b)
among-at [] b e = absurd (true≢false (sym e))
among-at (x ∷ xs) b e = elim (among-cons x b xs e) [
  | inl same ↦ (zero, omega arith, sym same)
  | inr later ↦ let r = among-at xs b later in let l = r.1 in (suc r.0, omega arith, r.2)
]

pub at-among : (xs : List ℕ) (k : ℕ) → k < length xs → is_among (get_or xs k 0) xs ≡ true
at-among [] k l = absurd (omega arith)
at-among (x ∷ xs) zero l = among-here x xs
at-among (x ∷ xs) (suc k) l = among-behind x (get_or xs k 0) xs (at-among xs k (omega arith))

pub contains-among : (xs : List ℕ) (b : ℕ) → Contains xs b → is_among b xs ≡ true
contains-among xs b h = ap (λ (x : ℕ). is_among x xs) (sym (get_or_default xs h.0 0 b h.1 ∙ h.2)) ∙ at-among xs h.0 h.1

pub among-contains : (xs : List ℕ) (b : ℕ) → is_among b xs ≡ true → Contains xs b
among-contains xs b e = let r = among-at xs b e in (r.0, r.1, get_or_default xs r.0 b 0 r.1 ∙ r.2)

-- ---- rising lists, and lists that are apart

pub among-low : (low high : ℕ) (xs : List ℕ) (x : ℕ) → AreRising low high xs → is_among x xs ≡ true → low ≤ x
among-low low high [] x r e = absurd (false≢true e)
among-low low high (y ∷ ys) x r e = elim (cases_Bool (eqb y x)) [
  | inl same ↦ (let is = eqb-true _ _ same in omega (arith, r.0))
  | inr other ↦ omega (arith, r.0, among-low (y + 1) high ys x r.2 (rw other at e))
]

pub among-rest : (y x : ℕ) (ys : List ℕ) → y ≢ x → is_among x (y ∷ ys) ≡ is_among x ys
among-rest y x ys other = rw (ne_eqb y x other) refl

-- a rising list within another is no longer
pub rising-within : (low high : ℕ) (xs ys : List ℕ) → AreRising low high xs → AreRising low high ys → ((x : ℕ) → is_among x xs ≡ true → is_among x ys ≡ true) → length xs ≤ length ys
rising-within low high [] ys r k sub = omega arith
rising-within low high (x ∷ xs) [] r k sub = absurd (false≢true (sub x (among-here x xs)))
rising-within low high (x ∷ xs) (y ∷ ys) r k sub = elim (cases_eq x y) [
  | inl same ↦
      let rest : AreRising (x + 1) high ys = subst (λ n. AreRising (n + 1) high ys) (sym same) k.2 in
      let go = rising-within (x + 1) high xs ys r.2 rest (λ z among.
      let up = among-low (x + 1) high xs z r.2 among in
      let in_all : is_among z (x ∷ xs) ≡ true = among-rest x z xs (λ e. omega arith) ∙ among in
      sym (among-rest y z ys (λ e. omega arith)) ∙ sub z in_all) in
      omega arith
  | inr other ↦
      let there : is_among x ys ≡ true = sym (among-rest y x ys (λ e. other (sym e))) ∙ sub x (among-here x xs) in
      let up = among-low (y + 1) high ys x k.2 there in
      let go = rising-within (y + 1) high (x ∷ xs) ys (up, r.1, r.2) k.2 (λ z among.
      let above : x ≤ z = among-low x high (x ∷ xs) z (omega arith, r.1, r.2) among in
      sym (among-rest y z ys (λ e. omega arith)) ∙ sub z among) in
      omega arith
]

pub none-from : (x : ℕ) (ys : List ℕ) → is_among x ys ≡ false → IsNoneOf x ys
none-from x [] e = tt
none-from x (y ∷ ys) e = elim (cases_Bool (eqb y x)) [
  | inl same ↦ absurd (false≢true (sym (rw same at e)))
  | inr other ↦ (λ k. eqb-false _ _ other (sym k), none-from x ys (rw other at e))
]

pub apart-from : (xs ys : List ℕ) → ((x : ℕ) → is_among x xs ≡ true → is_among x ys ≡ false) → AreApart xs ys
apart-from [] ys each = tt
apart-from (x ∷ xs) ys each = (
  none-from x ys (each x (among-here x xs)),
  apart-from xs ys (λ z among. each z (elim (cases_Bool (eqb x z)) [
    | inl same ↦ rw same refl
    | inr other ↦ rw other among
  ])),
)

none-of : (x : ℕ) (ys : List ℕ) → IsNoneOf x ys → is_among x ys ≡ false
none-of x [] none = refl
none-of x (y ∷ ys) none = rw (ne_eqb y x (λ e. none.0 (sym e))) (none-of x ys none.1)

pub apart-not_among : (xs ys : List ℕ) (x : ℕ) → AreApart xs ys → is_among x xs ≡ true → is_among x ys ≡ false
apart-not_among [] ys x apart e = absurd (false≢true e)
apart-not_among (y ∷ xs) ys x apart e = elim (cases_Bool (eqb y x)) [
  | inl same ↦ subst (λ z. is_among z ys ≡ false) (eqb-true _ _ same) (none-of y ys apart.0)
  | inr other ↦ apart-not_among xs ys x apart.1 (rw other at e)
]
