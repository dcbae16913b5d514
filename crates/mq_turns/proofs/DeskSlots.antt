-- Turns and slots name each other.
use Rattle.std.proofs.Common.{◌≡◌, ℕ, ◌+◌, ◌-◌, ◌<◌, length, sym, refl, ap, subst, arith, inl, inr}
use Rattle.std.proofs.lemmas.Bool.{lt-ltb, le-ltb, cases_lt}
use Rattle.mq_turns.specs.Desk.{slots, IsTurn, slot_of, turn_at}
use Rattle.mq_turns.specs.declared.rule.Opening.{Opening}
use Rattle.mq_turns.specs.declared.turn.Turn.{Turn}
use Rattle.mq_turns.specs.declared.turn.Turn.TheVariants.{Page, Side, Root}

module _ {P Q R : Type 0} (o : Opening P Q R) where
  pub page_at : (k : ℕ) → k < length o.pages → turn_at o k ≡ Page k
  page_at k lt = rw (lt-ltb k (length o.pages) lt) refl

  pub side_at : (q : ℕ) → q < length o.sides → turn_at o (length o.pages + q) ≡ Side q
  side_at q lt = let n : ℕ = length o.pages in let m : ℕ = length o.sides in
      let e : n + q - n ≡ q = omega arith in
      rw (le-ltb (n + q) n (omega arith), lt-ltb (n + q) (n + m) (omega arith)) (ap Side e)

  pub root_at : turn_at o (length o.pages + length o.sides) ≡ Root
  root_at = let n : ℕ = length o.pages in let m : ℕ = length o.sides in rw (le-ltb (n + m) n (omega arith), le-ltb (n + m) (n + m) (omega arith)) refl

  -- the slot of a turn of the desk, and the turn of the slot
  pub slot_below : (t : Turn) → IsTurn o t → slot_of o t < slots o
  slot_below (Page b) lt = omega arith
  slot_below (Side q) lt = omega arith
  slot_below Root lt = omega arith

  pub turn_at_slot : (t : Turn) → IsTurn o t → turn_at o (slot_of o t) ≡ t
  turn_at_slot (Page b) lt = page_at b lt
  turn_at_slot (Side q) lt = side_at q lt
  turn_at_slot Root lt = root_at

  pub turn_of_slot : (k : ℕ) → k < slots o → IsTurn o (turn_at o k)
  turn_of_slot k lt = let n : ℕ = length o.pages in let m : ℕ = length o.sides in elim (cases_lt k n) [
    | inl page ↦ subst (IsTurn o) (sym (page_at k page)) page
    | inr above ↦ elim (cases_lt k (n + m)) [
      | inl side ↦ let e : n + (k - n) ≡ k = omega arith in subst (λ j. IsTurn o (turn_at o j)) e (subst (IsTurn o) (sym (side_at (k - n) (omega arith))) (omega arith))
      | inr last ↦ let e : n + m ≡ k = omega arith in subst (λ j. IsTurn o (turn_at o j)) e (subst (IsTurn o) (sym root_at) tt)
    ]
  ]

  pub slot_of_turn : (k : ℕ) → k < slots o → slot_of o (turn_at o k) ≡ k
  slot_of_turn k lt = let n : ℕ = length o.pages in let m : ℕ = length o.sides in elim (cases_lt k n) [
    | inl page ↦ ap (slot_of o) (page_at k page)
    | inr above ↦ elim (cases_lt k (n + m)) [
      | inl side ↦ let e : n + (k - n) ≡ k = omega arith in subst (λ j. slot_of o (turn_at o j) ≡ j) e (ap (slot_of o) (side_at (k - n) (omega arith)))
      | inr last ↦ let e : n + m ≡ k = omega arith in subst (λ j. slot_of o (turn_at o j) ≡ j) e (ap (slot_of o) root_at)
    ]
  ]
