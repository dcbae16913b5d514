-- Reading a chain through a port.
use Rattle.std.proofs.Common.{◌≡◌, ◌<◌, ◌≤◌, inl, inr, ℕ, ◌+◌, ◌-◌, Bool, true, List, [], ◌∷◌, ◌++◌, length, max, Option, Some, refl, sym, ◌∙◌, ap, subst, arith, get_or, set}
use Rattle.std.specs.Prelude.{slice_get, IfErr, IfOk, Result, Ok, Err}
use Rattle.std.proofs.Math.Nat.{le-max_left, le-max_right, max-eq_left, max-eq_right}
use Rattle.std.proofs.lemmas.Bool.{cases_lt}
use Rattle.std.specs.Option.{unwrap_or}
use Rattle.mq_blocks.specs.Descriptor.{Descriptor}
use Rattle.mq_blocks.specs.Drive.{PortState}
use Rattle.mq_blocks.specs.Journal.{WriteFields, number_limit}
use Rattle.mq_blocks.specs.declared.geometry.Geometry.{Geometry}
use Rattle.mq_nvme.specs.Entry.{refusal_of}
use Rattle.mq_nvme.specs.Says.{says}
use Rattle.mq_area.specs.declared.descriptor.PlaceIs.{PlaceIs}
use Rattle.mq_area.specs.declared.descriptor.PlaceIs.TheVariants.{Exact}
use Rattle.mq_ledger.proofs.JournalChains.{said-once}
use Rattle.mq_recover.specs.Reader.{Accepting}
use Rattle.mq_recover.specs.Refusals.{IsFoundNextBy, AreFoundBy, AreRung, IsGreatest, RefusesEntry, RefusesNewest, NewestEntry, RefusesRequest, RequestEntry, entry_at}
use Rattle.mq_recover.specs.declared.refusal.ChainRefusal.{ChainRefusal}

-- ---- entries

pub newest-entry : (s : PortState) (count : ℕ) (e : ChainRefusal) → 0 < s.head → count ≡ s.head - 1 → RefusesEntry s count e → RefusesNewest s e
newest-entry s count e some is r =
    subst (RefusesNewest s) (sym r.1) (NewestEntry r.0 some (ap (λ (n : ℕ). refusal_of (entry_at s n)) (sym is) ∙ r.2))

pub request-entry : (s : PortState) (count : ℕ) (e : ChainRefusal) → RefusesEntry s count e → RefusesRequest s count e
request-entry s count e r = subst (RefusesRequest s count) (sym r.1) (RequestEntry r.0 r.2)

-- these entries were read: each is in order, the last is a commit request or not, and this is their
-- greatest number
pub record AreRead (s : PortState) (from to greatest : ℕ) (whole : Bool) : Type 0 where
  pub rung : AreRung s from to
  pub greatest_is : IsGreatest s from to greatest
  pub none : to ≤ from → whole ≡ true
  pub last : from < to → (number : ℕ) × (lba : ℕ) × (says (entry_at s (to - 1)) ≡ Some (number, lba, whole))

pub read-none : (s : PortState) (from : ℕ) → AreRead s from from 0 true
read-none s from = record {
  rung = λ c low high. absurd (omega (arith, low, high));
  greatest_is = record { above = λ c r low high is. absurd (omega (arith, low, high)); shown = inl refl };
  none = λ low. refl;
  last = λ low. absurd (omega (arith, low));
}

rung-more : (s : PortState) (from to : ℕ) (r : WriteFields) → AreRung s from to → says (entry_at s to) ≡ Some r → r.0 ≤ number_limit → AreRung s from (to + 1)
rung-more s from to r all is low c above below = elim (cases_lt c to) [
  | inl h ↦ all c above h
  | inr h ↦ let same : to ≡ c = omega (arith, h, below) in (r, subst (λ (n : ℕ). says (entry_at s n) ≡ Some r) same is, low)
]

greatest-more : (s : PortState) (from to greatest : ℕ) (r : WriteFields) → from ≤ to → IsGreatest s from to greatest → says (entry_at s to) ≡ Some r → IsGreatest s from (to + 1) (max greatest r.0)
greatest-more s from to greatest r within g is =
    let left : greatest ≤ max greatest r.0 = le-max_left greatest r.0 in
    let right : r.0 ≤ max greatest r.0 = le-max_right greatest r.0 in
    record {
      above = λ c x low high at. elim (cases_lt c to) [
        | inl h ↦ let b = g.above c x low h at in omega (arith, b, left)
        | inr h ↦
            let same : c ≡ to = omega (arith, h, high) in
            let one : x.0 ≡ r.0 = ap (λ (y : WriteFields). y.0) (said-once (says (entry_at s to)) x r (subst (λ (n : ℕ). says (entry_at s n) ≡ Some x) same at) is) in
            omega (arith, one, right)
      ];
      shown = elim (cases_lt greatest r.0) [
        | inl h ↦
            let top : max greatest r.0 ≡ r.0 = max-eq_right (omega (arith, h)) in
            inr (to, r, within, omega arith, is, sym top)
        | inr h ↦
            let top : max greatest r.0 ≡ greatest = max-eq_left (omega (arith, h)) in
            elim g.shown [ inl z ↦ inl (top ∙ z) | inr x ↦ let high = x.3 in inr (x.0, x.1, x.2, omega (arith, high), x.4, x.5 ∙ sym top) ]
      ];
    }

pub read-more : (s : PortState) (from to greatest more : ℕ) (whole : Bool) (number lba : ℕ) (commit : Bool) → from ≤ to → AreRead s from to greatest whole → says (entry_at s to) ≡ Some (number, lba, commit) → number ≤ number_limit → more ≡ max greatest number
    → AreRead s from (to + 1) more commit
read-more s from to greatest more whole number lba commit within a is low more_is =
    let before : (to + 1) - 1 ≡ to = omega arith in
    record {
      rung = rung-more s from to (number, lba, commit) a.rung is low;
      greatest_is = subst (IsGreatest s from (to + 1)) (sym more_is) (greatest-more s from to greatest (number, lba, commit) within a.greatest_is is);
      none = λ none. absurd (omega (arith, none, within));
      last = λ some. (number, lba, ap (λ (n : ℕ). says (entry_at s n)) before ∙ is);
    }

-- ---- the chain

module _ (accepts : Accepting) where
  -- one more descriptor is found
  pub found-more : (g : Geometry) (s : PortState) (q base number : ℕ) (at : PlaceIs) (newest : Option ℕ) (ds : List Descriptor) (n : ℕ) (a : PlaceIs) (w : Option ℕ) (d : Descriptor)
      → AreFoundBy accepts g s q base number at newest ds n a w → base < n → IsFoundNextBy accepts g s q n a w d
      → AreFoundBy accepts g s q base number at newest (ds ++ d ∷ []) d.prev_number (Exact d.prev_place) (Some (unwrap_or w d.place))
  found-more g s q base number at newest [] n a w d f above found =
      let is = f.0 in (
        omega (arith, is, above),
        subst (λ (k : ℕ). IsFoundNextBy accepts g s q k at newest d) f.0 (subst (λ (k : PlaceIs). IsFoundNextBy accepts g s q n k newest d) f.1 (subst (λ (k : Option ℕ). IsFoundNextBy accepts g s q n a k d) f.2 found)),
        (refl, refl, ap (λ (k : Option ℕ). Some (unwrap_or k d.place)) f.2),
      )
  found-more g s q base number at newest (e ∷ es) n a w d f above found =
      (f.0, f.1, found-more g s q base e.prev_number (Exact e.prev_place) (Some (unwrap_or newest e.place)) es n a w d f.2 above found)

  pub found-as : (g : Geometry) (s : PortState) (q base number : ℕ) (at : PlaceIs) (newest : Option ℕ) (ds more : List Descriptor) (d : Descriptor) (n m a b w v : ℕ)
      → more ≡ ds ++ d ∷ [] → n ≡ m → a ≡ b → w ≡ v → AreFoundBy accepts g s q base number at newest (ds ++ d ∷ []) n (Exact a) (Some w) → AreFoundBy accepts g s q base number at newest more m (Exact b) (Some v)
  found-as g s q base number at newest ds more d n m a b w v more_is p q_is r f =
      subst (λ (l : List Descriptor). AreFoundBy accepts g s q base number at newest l m (Exact b) (Some v)) (sym more_is)
      (subst (λ (k : ℕ). AreFoundBy accepts g s q base number at newest (ds ++ d ∷ []) k (Exact b) (Some v)) p
      (subst (λ (k : ℕ). AreFoundBy accepts g s q base number at newest (ds ++ d ∷ []) n (Exact k) (Some v)) q_is
      (subst (λ (k : ℕ). AreFoundBy accepts g s q base number at newest (ds ++ d ∷ []) n (Exact a) (Some k)) r f)))

-- ---- results

-- an Ok has another property too
pub ok-map : {A E : Type 0} (r : Result A E) (P Q : A → Type 0) → ((x : A) → P x → Q x) → IfOk r P → IfOk r Q
ok-map (Ok x) P Q f h = f x h
ok-map (Err e) P Q f h = tt

pub err-map : {A E : Type 0} (r : Result A E) (P Q : E → Type 0) → ((x : E) → P x → Q x) → IfErr r P → IfErr r Q
err-map (Ok x) P Q f h = tt
err-map (Err e) P Q f h = f e h

-- ---- the one queue's port

pub first-is : {A : Type 0} (xs : List A) (x : A) → length xs ≡ 1 → x ≡ get_or xs 0 x → slice_get xs 0 ≡ Some x
first-is [] x one is = absurd (omega arith)
first-is (y ∷ ys) x one is = ap (λ (z : _). Some z) (sym is)

pub first-same : {A : Type 0} (xs : List A) (x y : A) → length xs ≡ 1 → x ≡ get_or xs 0 x → slice_get xs 0 ≡ Some y → x ≡ y
first-same xs x y one is there = let here : slice_get xs 0 ≡ Some x = first-is xs x one is in cc

pub first-set : {A : Type 0} (xs : List A) (x y : A) → length xs ≡ 1 → slice_get (set xs 0 x) 0 ≡ Some y → x ≡ y
first-set [] x y one there = absurd (omega arith)
first-set (z ∷ zs) x y one there = cc
