-- The front: the greatest number up to which all are done.
use Rattle.std.proofs.Common.{◌≡◌, ℕ, ◌+◌, ◌≤◌, Bool, true, false, List, [], ◌∷◌, length, sym, refl, ap, ◌∙◌, inl, inr, arith}
use Rattle.std.proofs.lemmas.Bool.{cases_Bool, and_parts, and_from, and_cases, false≢true}
use Rattle.mq_ledger.specs.History.{upto, all_of, part_of, AreNumbered, IsAt}
use Rattle.mq_ledger.specs.declared.tx.Tx.{Tx}
use Rattle.mq_ledger.proofs.History.{upto-at, upto-past, at_most}

pub part-all : (w : Tx → List Tx → Bool) (t : Tx) (ts : List Tx) → all_of w (t ∷ ts) ≡ true → part_of w (t ∷ ts) ≡ t ∷ ts
part-all w t ts e = rw e refl

pub part-less : (w : Tx → List Tx → Bool) (t : Tx) (ts : List Tx) → all_of w (t ∷ ts) ≡ false → part_of w (t ∷ ts) ≡ part_of w ts
part-less w t ts e = rw e refl

pub part_le : (w : Tx → List Tx → Bool) (h : List Tx) → length (part_of w h) ≤ length h
part_le w [] = omega arith
part_le w (t ∷ ts) =
    elim (cases_Bool (all_of w (t ∷ ts))) [
      | inl e ↦ rw (part-all w t ts e) (omega arith)
      | inr e ↦ rw (part-less w t ts e) (omega (arith, part_le w ts))
    ]

part_at : (base m : ℕ) (w : Tx → List Tx → Bool) (h : List Tx) → AreNumbered base h → m ≡ base + length (part_of w h) → upto m h ≡ part_of w h
part_at base m w [] n e = refl
part_at base m w (t ∷ ts) n e =
    elim (cases_Bool (all_of w (t ∷ ts))) [
      | inl d ↦ (let k = rw (part-all w t ts d) at e in rw (part-all w t ts d) (upto-at m t ts (omega (arith, n.0))))
      | inr d ↦
          let k = rw (part-less w t ts d) at e in
          rw (part-less w t ts d) (upto-past m t ts (omega (arith, n.0, part_le w ts)) ∙ part_at base m w ts n.1 k)
    ]

-- the part is the history up to the front
pub part_is : (base : ℕ) (w : Tx → List Tx → Bool) (h : List Tx) → AreNumbered base h → upto (base + length (part_of w h)) h ≡ part_of w h
part_is base w h n = part_at base _ w h n refl

pub all_of_at : (w : Tx → List Tx → Bool) (t : Tx) (ts h : List Tx) → all_of w h ≡ true → IsAt t ts h → w t ts ≡ true
all_of_at w t ts [] all at = absurd at
all_of_at w t ts (u ∷ txs) all (inl same) = rw (← same.0, ← same.1) (and_parts _ _ all).0
all_of_at w t ts (u ∷ txs) all (inr deeper) = all_of_at w t ts txs (and_parts _ _ all).1 deeper

pub done_below : (base : ℕ) (w : Tx → List Tx → Bool) (t : Tx) (ts h : List Tx) → AreNumbered base h → IsAt t ts h → t.number ≤ base + length (part_of w h) → w t ts ≡ true
done_below base w t ts [] n at l = absurd at
done_below base w t ts (u ∷ txs) n (inl same) l =
    elim (cases_Bool (all_of w (u ∷ txs))) [
      | inl all ↦ all_of_at w t ts (u ∷ txs) all (inl same)
      | inr some ↦
          let k = rw (part-less w u txs some) at l in
          absurd (let e : u.number ≡ t.number = ap (λ (k : Tx). k.number) same.0 in omega (arith, n.0, part_le w txs))
    ]
done_below base w t ts (u ∷ txs) n (inr deeper) l =
    elim (cases_Bool (all_of w (u ∷ txs))) [
      | inl all ↦ all_of_at w t ts (u ∷ txs) all (inr deeper)
      | inr some ↦ done_below base w t ts txs n.1 deeper (rw (part-less w u txs some) at l)
    ]

-- ---- the front moves with what is done

-- of the transactions of the history, those that were done are done
pub record DoneMore (old new : Tx → List Tx → Bool) (h : List Tx) : Type 0 where
  pub each : (t : Tx) (ts : List Tx) → IsAt t ts h → old t ts ≡ true → new t ts ≡ true

done_rest : (old new : Tx → List Tx → Bool) (t : Tx) (ts : List Tx) → DoneMore old new (t ∷ ts) → DoneMore old new ts
done_rest old new t ts m = record { each = λ u vs at. m.each u vs (inr at) }

pub all_done_more : (old new : Tx → List Tx → Bool) (h : List Tx) → DoneMore old new h → all_of old h ≡ true → all_of new h ≡ true
all_done_more old new [] m all = refl
all_done_more old new (t ∷ ts) m all =
    let k = and_parts _ _ all in
    and_from _ _ (m.each t ts (inl (refl, refl)) k.0) (all_done_more old new ts (done_rest old new t ts m) k.1)

pub part_more : (old new : Tx → List Tx → Bool) (h : List Tx) → DoneMore old new h → length (part_of old h) ≤ length (part_of new h)
part_more old new [] m = omega arith
part_more old new (t ∷ ts) m =
    elim (cases_Bool (all_of new (t ∷ ts))) [
      | inl e ↦ rw (part-all new t ts e) (part_le old (t ∷ ts))
      | inr e ↦
          let e' : all_of old (t ∷ ts) ≡ false = elim (cases_Bool (all_of old (t ∷ ts))) [
            | inl d ↦ absurd (false≢true (sym e ∙ all_done_more old new (t ∷ ts) m d))
            | inr d ↦ d
          ] in
          rw (part-less new t ts e, part-less old t ts e') (part_more old new ts (done_rest old new t ts m))
    ]

pub part_full : (w : Tx → List Tx → Bool) (h : List Tx) → length h ≤ length (part_of w h) → all_of w h ≡ true
part_full w [] l = refl
part_full w (t ∷ ts) l =
    elim (cases_Bool (all_of w (t ∷ ts))) [
      | inl all ↦ all
      | inr some ↦ absurd (let k = rw (part-less w t ts some) at l in omega (arith, part_le w ts))
    ]

pub part_all : (w : Tx → List Tx → Bool) (h : List Tx) → all_of w (part_of w h) ≡ true
part_all w [] = refl
part_all w (t ∷ ts) =
    elim (cases_Bool (all_of w (t ∷ ts))) [
      | inl all ↦ rw (part-all w t ts all) all
      | inr some ↦ rw (part-less w t ts some) (part_all w ts)
    ]

-- the first that is not in the part lacks it
pub part_stops : (base : ℕ) (w : Tx → List Tx → Bool) (t : Tx) (ts h : List Tx) → AreNumbered base h → IsAt t ts h → t.number ≡ base + length (part_of w h) + 1 → w t ts ≡ false
part_stops base w t ts [] n at e = absurd at
part_stops base w t ts (u ∷ txs) n (inl same) e =
    elim (cases_Bool (all_of w (u ∷ txs))) [
      | inl all ↦ absurd (let k = rw (part-all w u txs all) at e in omega (arith, at_most base t ts (u ∷ txs) n (inl same)))
      | inr some ↦
          let k = rw (part-less w u txs some) at e in
          let m : u.number ≡ t.number = ap (λ (v : Tx). v.number) same.0 in
          let full = part_full w txs (omega (arith, n.0)) in
          elim (and_cases (w u txs) (all_of w txs) some) [
            | inl bad ↦ rw (same.0, same.1) at bad
            | inr bad ↦ absurd (false≢true (sym bad ∙ full))
          ]
    ]
part_stops base w t ts (u ∷ txs) n (inr deeper) e =
    elim (cases_Bool (all_of w (u ∷ txs))) [
      | inl all ↦ absurd (let k = rw (part-all w u txs all) at e in omega (arith, at_most base t ts (u ∷ txs) n (inr deeper)))
      | inr some ↦ part_stops base w t ts txs n.1 deeper (rw (part-less w u txs some) at e)
    ]
