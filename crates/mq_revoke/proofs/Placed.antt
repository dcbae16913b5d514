-- A placement is determined by the writes.
use Rattle.std.proofs.Common.{◌≡◌, ℕ, ◌+◌, ◌≤◌, true, List, [], ◌∷◌, sym, refl, subst, ◌∙◌, arith}
use Rattle.std.proofs.lemmas.Bool.{false≢true}
use Rattle.mq_blocks.specs.Descriptor.{AreRising}
use Rattle.mq_blocks.specs.Geometry.{homes_of}
use Rattle.mq_blocks.specs.Journal.{is_among}
use Rattle.mq_blocks.specs.declared.geometry.Geometry.{Geometry}
use Rattle.mq_blocks.proofs.JournalAmong.{among-low, among-here, among-rest}
use Rattle.mq_revoke.specs.Placed.{Placed}
use Rattle.mq_revoke.specs.Placing.{IsDirect, IsCopied, AreThose, IsPlacement}
use Rattle.mq_revoke.specs.declared.placement.Planned.{Planned}

-- what is among the one is among the other
abbrev pub IsWithin : List ℕ → List ℕ → Type 0
IsWithin xs ys = (x : ℕ) → is_among x xs ≡ true → is_among x ys ≡ true

-- the rest of two lists with the same head
within-rest : (high x : ℕ) (xs ys : List ℕ) → AreRising (x + 1) high xs → IsWithin (x ∷ xs) (x ∷ ys) → IsWithin xs ys
within-rest high x xs ys rising within z among =
    let up = among-low (x + 1) high xs z rising among in
    let other : x ≡ z → ⊥ = λ e. omega (arith, up, e) in
    sym (among-rest x z ys other) ∙ within z (among-rest x z xs other ∙ among)

head-low : (low high x y : ℕ) (xs ys : List ℕ) → AreRising low high (y ∷ ys) → IsWithin (x ∷ xs) (y ∷ ys) → y ≤ x
head-low low high x y xs ys rising within = among-low y high (y ∷ ys) x (omega arith, rising.1, rising.2) (within x (among-here x xs))

-- two rising lists of the same numbers are one
pub rising-same : (low high : ℕ) (xs ys : List ℕ) → AreRising low high xs → AreRising low high ys → IsWithin xs ys → IsWithin ys xs → xs ≡ ys
rising-same low high [] [] r s to from = refl
rising-same low high [] (y ∷ ys) r s to from = absurd (false≢true (from y (among-here y ys)))
rising-same low high (x ∷ xs) [] r s to from = absurd (false≢true (to x (among-here x xs)))
rising-same low high (x ∷ xs) (y ∷ ys) r s to from =
    let below : y ≤ x = head-low low high x y xs ys s to in
    let above : x ≤ y = head-low low high y x ys xs r from in
    let same : x ≡ y = omega (arith, below, above) in
    let rest : AreRising (x + 1) high ys = subst (λ n. AreRising (n + 1) high ys) (sym same) s.2 in
    let to_same : IsWithin (x ∷ xs) (x ∷ ys) = subst (λ n. IsWithin (x ∷ xs) (n ∷ ys)) (sym same) to in
    let from_same : IsWithin (x ∷ ys) (x ∷ xs) = subst (λ n. IsWithin (n ∷ ys) (x ∷ xs)) (sym same) from in
    let tails = rising-same (x + 1) high xs ys r.2 rest (within-rest high x xs ys r.2 to_same) (within-rest high x ys xs rest from_same) in
    cc

those-unique : (homes : ℕ) (has : Planned → Type 0) (ws : List Planned) (xs ys : List ℕ) → AreThose homes has ws xs → AreThose homes has ws ys → xs ≡ ys
those-unique homes has ws xs ys a b = rising-same 0 homes xs ys a.rising b.rising (within xs ys a b) (within ys xs b a)
  where
    within : (txs vs : List ℕ) → AreThose homes has ws txs → AreThose homes has ws vs → IsWithin txs vs
    within txs vs u v x among = (let found = u.only x among in subst (λ n. is_among n vs ≡ true) found.2 (v.all found.0 found.1 found.3))

abbrev pub lists_of : (logged direct revoked : List ℕ) → Placed
lists_of logged direct revoked = record { logged = logged; direct = direct; revoked = revoked }

same-lists : (ls ds rs ms es ss : List ℕ) → ls ≡ ms → ds ≡ es → rs ≡ ss → lists_of ls ds rs ≡ lists_of ms es ss
same-lists ls ds rs ms es ss p q r = cc

pub placement-unique : (g : Geometry) (queue front base : ℕ) (ws : List Planned) (p r : Placed) → IsPlacement g queue front base ws p → IsPlacement g queue front base ws r → p ≡ r
placement-unique g queue front base ws p r a b =
    let logged = those-unique (homes_of g) (λ w. IsDirect g queue front w → ⊥) ws p.logged r.logged a.logged b.logged in
    let direct = those-unique (homes_of g) (IsDirect g queue front) ws p.direct r.direct a.direct b.direct in
    let revoked = those-unique (homes_of g) (λ w. IsDirect g queue front w × IsCopied base w) ws p.revoked r.revoked a.revoked b.revoked in
    same-lists p.logged p.direct p.revoked r.logged r.direct r.revoked logged direct revoked
