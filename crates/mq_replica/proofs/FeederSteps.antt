-- What a feeder hears.
use Rattle.std.proofs.Common.{◌≡◌, ◌⊎◌, ℕ, zero, suc, ◌+◌, ◌-◌, ◌<◌, ◌≤◌, Bool, true, false, cond, List, [], ◌∷◌, ◌++◌, length, drop, min, refl, sym, ap, subst, ◌∙◌, arith, inl, inr, length-drop}
use Rattle.std.proofs.lemmas.Bool.{cases_lt, le-leb, lt-leb}
use Rattle.std.specs.Prelude.{Contains}
use Rattle.mq_replica.specs.Feeding.{AreNumbered, FeederState, after_heard, heard_to, last_of}
use Rattle.mq_replica.proofs.Histories.{numbered_on}
use Rattle.mq_replica.specs.declared.update.Update.{Update}

-- what is in a list is its first, or in the rest
pub first_or : {X : Type 0} (x : X) (xs : List X) (y : X) → Contains (x ∷ xs) y → (x ≡ y) ⊎ Contains xs y
first_or x xs y (zero, low, is) = inl is
first_or x xs y (suc k, low, is) = inr (k, (omega (arith, low)), is)

heard_below : (n : ℕ) (f : FeederState) → n ≤ f.acknowledged → heard_to n f ≡ f.acknowledged
heard_below n f low = rw (le-leb n f.acknowledged low) refl

heard_above : (n : ℕ) (f : FeederState) → f.acknowledged < n → heard_to n f ≡ min n (last_of f)
heard_above n f low = rw (lt-leb n f.acknowledged low) refl

-- the acknowledged number stays low where both it and what is heard are low
pub heard_low : (n : ℕ) (f : FeederState) (m : ℕ) → n ≤ m → f.acknowledged ≤ m → heard_to n f ≤ m
heard_low n f m a b = elim (cases_lt f.acknowledged n) [
  | inl up ↦ (let e = heard_above n f up in omega (arith, e, a))
  | inr low ↦ (let e = heard_below n f low in omega (arith, e, b))
]

-- it never falls, and is never above the last
pub heard_range : (n : ℕ) (f : FeederState) → (f.acknowledged ≤ heard_to n f) × (heard_to n f ≤ last_of f)
heard_range n f = elim (cases_lt f.acknowledged n) [
  | inl up ↦ (let e = heard_above n f up in (omega (arith, e, up), omega (arith, e)))
  | inr low ↦ (let e = heard_below n f low in (omega (arith, e), omega (arith, e)))
]

-- the last number stays
pub last_heard : (n : ℕ) (f : FeederState) → last_of (after_heard n f) ≡ last_of f
last_heard n f =
    let r = heard_range n f in
    let l : length (drop (heard_to n f - f.acknowledged) f.waiting) ≡ length f.waiting - (heard_to n f - f.acknowledged) = length-drop _ f.waiting in
    omega (arith, r.0, r.1, l)

-- ---- step by step

pub heard_still : (n : ℕ) (f : FeederState) → n ≤ f.acknowledged → after_heard n f ≡ f
heard_still n f low =
    let e = heard_below n f low in
    let z : heard_to n f - f.acknowledged ≡ 0 = omega (arith, e) in
    λ i. record { acknowledged = e i; waiting = (ap (λ (k : ℕ). drop k f.waiting) z) i }

pub heard_none : (n : ℕ) (f : FeederState) → f.acknowledged < n → f.waiting ≡ [] → after_heard n f ≡ f
heard_none n f low none =
    let above = heard_above n f low in
    let l : length f.waiting ≡ 0 = ap length none in
    let e : heard_to n f ≡ f.acknowledged = omega (arith, above, l, low) in
    let z : heard_to n f - f.acknowledged ≡ 0 = omega (arith, e) in
    λ i. record { acknowledged = e i; waiting = (ap (λ (k : ℕ). drop k f.waiting) z) i }

heard_more : (n a : ℕ) (u : Update) (us : List Update) → a < n → heard_to n (record { acknowledged = a; waiting = u ∷ us }) ≡ heard_to n (record { acknowledged = a + 1; waiting = us })
heard_more n a u us low =
    let one = heard_above n (record { acknowledged = a; waiting = u ∷ us }) low in
    elim (cases_lt (a + 1) n) [
      | inl up ↦ (let two = heard_above n (record { acknowledged = a + 1; waiting = us }) up in omega (arith, one, two))
      | inr at ↦ (let two = heard_below n (record { acknowledged = a + 1; waiting = us }) at in omega (arith, one, two, low, at))
    ]

pub heard_step : (n a : ℕ) (u : Update) (us : List Update) → a < n → after_heard n (record { acknowledged = a; waiting = u ∷ us }) ≡ after_heard n (record { acknowledged = a + 1; waiting = us })
heard_step n a u us low =
    let e = heard_more n a u us low in
    let r = heard_range n (record { acknowledged = a + 1; waiting = us }) in
    let h = heard_to n (record { acknowledged = a + 1; waiting = us }) in
    let k : heard_to n (record { acknowledged = a; waiting = u ∷ us }) - a ≡ suc (h - (a + 1)) = omega (arith, e, r.0) in
    λ i. record { acknowledged = e i; waiting = (ap (λ (m : ℕ). drop m (u ∷ us)) k) i }

-- ---- a push

pub pushed : (a : ℕ) (us more : List Update) (u : Update) (b : Bool) → more ≡ cond b (us ++ u ∷ []) us → u.number ≡ a + length us + 1 → AreNumbered a us → AreNumbered a more
pushed a us more u true is next are = subst (λ (vs : List Update). AreNumbered a vs) (sym is) (numbered_on a us u are next)
pushed a us more u false is next are = subst (λ (vs : List Update). AreNumbered a vs) (sym is) are

-- ---- an update that is heard of

pub heard_popped : (n a : ℕ) (ws rest : List Update) (u : Update) → ws ≡ u ∷ rest → a < n → AreNumbered a ws → AreNumbered u.number rest × (after_heard n (record { acknowledged = u.number; waiting = rest }) ≡ after_heard n (record { acknowledged = a; waiting = ws }))
heard_popped n a ws rest u is low are =
    let both : AreNumbered a (u ∷ rest) = subst (λ (vs : List Update). AreNumbered a vs) is are in (
      subst (λ (m : ℕ). AreNumbered m rest) (sym both.0) both.1,
      ap (λ (m : ℕ). after_heard n (record { acknowledged = m; waiting = rest })) both.0 ∙ (sym (heard_step n a u rest low) ∙ ap (λ (vs : List Update). after_heard n (record { acknowledged = a; waiting = vs })) (sym is)),
    )
