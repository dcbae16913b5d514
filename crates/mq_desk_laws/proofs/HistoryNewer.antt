-- Newer transactions leave the older ones as they stood.
use Rattle.std.proofs.Common.{◌≡◌, ℕ, ◌+◌, ◌≤◌, Bool, List, [], ◌∷◌, ◌++◌, length, refl, ap, ◌∙◌, inl, inr, arith, length-append}
use Rattle.std.proofs.lemmas.Bool.{cases_Bool}
use Rattle.mq_ledger.specs.History.{upto, part_of, all_of, AreNumbered, IsAt}
use Rattle.mq_ledger.specs.declared.tx.Tx.{Tx}
use Rattle.mq_ledger.proofs.History.{upto-past}
use Rattle.mq_core.proofs.HistoryFronts.{part-all, part-less, part_le}

pub part_longer : (w : Tx → List Tx → Bool) (newer h : List Tx) → length (part_of w h) ≤ length (part_of w (newer ++ h))
part_longer w [] h = omega arith
part_longer w (t ∷ ns) h = elim (cases_Bool (all_of w (t ∷ (ns ++ h)))) [
  | inl e ↦ rw (part-all w t (ns ++ h) e) (omega (arith, part_longer w ns h, part_le w (ns ++ h)))
  | inr e ↦ rw (part-less w t (ns ++ h) e) (part_longer w ns h)
]

pub upto_older : (base f : ℕ) (newer h : List Tx) → AreNumbered base (newer ++ h) → f ≤ base + length h → upto f (newer ++ h) ≡ upto f h
upto_older base f [] h n l = refl
upto_older base f (t ∷ ns) h n l = upto-past f t (ns ++ h) (omega (arith, n.0, length-append ns h)) ∙ upto_older base f ns h n.1 l

-- what has a number that was drawn then stood there then
pub at_older : (base n : ℕ) (t : Tx) (ts newer h : List Tx) → AreNumbered base (newer ++ h) → n ≤ base + length h → IsAt t ts (newer ++ h) → t.number ≤ n → IsAt t ts h
at_older base n t ts [] h numbers low at below = at
at_older base n t ts (u ∷ txs) h numbers low (inl same) below =
    let e : u.number ≡ t.number = ap (λ (w : Tx). w.number) same.0 in
    absurd (omega (arith, numbers.0, length-append txs h))
at_older base n t ts (u ∷ txs) h numbers low (inr deeper) below = at_older base n t ts txs h numbers.1 low deeper below
