-- The plan as a walk over the writes: which blocks pass a test, in their order.
use Rattle.std.proofs.Common.{◌≡◌, ℕ, zero, suc, ◌+◌, ◌-◌, ◌<◌, ◌≤◌, Bool, true, false, ◌&&◌, not, cond, List, [], ◌∷◌, ◌++◌, length, map, get_or, take, Option, Some, None, sym, refl, ap, ◌∙◌, inl, inr, arith, eqb, nat_eq, nat_le, nat_lt}
use Rattle.std.specs.List.{Contains, filter}
use Rattle.std.proofs.lemmas.Bool.{cases_Bool, eqb-true, eq-eqb, leb-true, le-leb, ltb-true, lt-ltb, false≢true, false_from_ne_true, and_parts, and_from, and_left, and_right}
use Rattle.std.proofs.lemmas.List.{append-nil, length-take-le, map-append, length-map}
use Rattle.std.proofs.lemmas.List.Elements.{filter_more}
use Rattle.std.proofs.lemmas.List.Filters.{length-filter_both}
use Rattle.mq_blocks.specs.Descriptor.{AreRising}
use Rattle.mq_blocks.specs.Geometry.{homes_of, zone_of}
use Rattle.mq_blocks.specs.Journal.{is_among}
use Rattle.mq_blocks.specs.declared.geometry.Geometry.{Geometry}
use Rattle.mq_blocks.proofs.DescriptorRising.{rising-lower}
use Rattle.mq_revoke.specs.Placing.{IsDirect, IsCopied, AreThose, IsPlacement, AreInOrder}
use Rattle.mq_revoke.specs.declared.placement.Planned.{Planned}

-- ---- the tests

abbrev is_in : ℕ → Option ℕ → Bool
is_in q None = false
is_in q (Some z) = nat_eq z q

abbrev pub goes_home : Geometry → ℕ → ℕ → Planned → Bool
goes_home g q f w = w.is_data && w.was_free && nat_le w.version f && is_in q (zone_of g w.block)

abbrev pub stays : Geometry → ℕ → ℕ → Planned → Bool
stays g q f w = not (goes_home g q f w)

abbrev pub is_revoked : Geometry → ℕ → ℕ → ℕ → Planned → Bool
is_revoked g q f b w = goes_home g q f w && nat_lt b w.last_logged

is_in-some : (q : ℕ) (z : Option ℕ) → is_in q z ≡ true → z ≡ Some q
is_in-some q None e = absurd (false≢true e)
is_in-some q (Some z) e = ap Some (eqb-true z q e)

pub goes_home-is : (g : Geometry) (q f : ℕ) (w : Planned) → goes_home g q f w ≡ true → IsDirect g q f w
goes_home-is g q f w e =
    let last = and_parts (w.is_data && w.was_free && nat_le w.version f) (is_in q (zone_of g w.block)) e in
    let third = and_parts (w.is_data && w.was_free) (nat_le w.version f) last.0 in
    let two = and_parts w.is_data w.was_free third.0 in
    record {
      is_data = two.0;
      zone = is_in-some q (zone_of g w.block) last.1;
      was_free = two.1;
      settled = leb-true _ _ third.1;
    }

pub goes_home-true : (g : Geometry) (q f : ℕ) (w : Planned) → IsDirect g q f w → goes_home g q f w ≡ true
goes_home-true g q f w is =
    let zone : is_in q (zone_of g w.block) ≡ true = ap (is_in q) is.zone ∙ eq-eqb q q refl in
    and_from _ _ (and_from _ _ (and_from _ _ is.is_data is.was_free) (le-leb _ _ is.settled)) zone

-- ---- the blocks that pass

abbrev pub blocks_where : (Planned → Bool) → List Planned → List ℕ
blocks_where p ws = map (λ w. w.block) (filter p ws)

where-among : (p : Planned → Bool) (ws : List Planned) (x : ℕ) → is_among x (blocks_where p ws) ≡ true → (w : Planned) × Contains ws w × (w.block ≡ x) × (p w ≡ true)
where-among p [] x e = absurd (false≢true e)
where-among p (w ∷ ws) x e = elim (cases_Bool (p w)) [
  | inl passes ↦ elim (cases_Bool (eqb w.block x)) [
    | inl same ↦ (w, (0, omega arith, refl), eqb-true _ _ same, passes)
    | inr other ↦
        let rest = where-among p ws x (rw other at (rw passes at e)) in
        (rest.0, (suc rest.1.0, omega (arith, rest.1.1), rest.1.2), rest.2, rest.3)
  ]
  | inr fails ↦
      let rest = where-among p ws x (rw fails at e) in
      (rest.0, (suc rest.1.0, omega (arith, rest.1.1), rest.1.2), rest.2, rest.3)
]

among-where : (p : Planned → Bool) (ws : List Planned) (w : Planned) (k : ℕ) → k < length ws → get_or ws k w ≡ w → p w ≡ true → is_among w.block (blocks_where p ws) ≡ true
among-where p [] w k l e passes = absurd (omega (arith, l))
among-where p (v ∷ ws) w zero l e passes =
    let there : p v ≡ true = rw e passes in
    rw there (rw (eq-eqb v.block w.block (ap (λ (u : Planned). u.block) e)) refl)
among-where p (v ∷ ws) w (suc k) l e passes =
    let rest = among-where p ws w k (omega (arith, l)) e passes in
    elim (cases_Bool (p v)) [
      | inl there ↦ rw there (elim (cases_Bool (eqb v.block w.block)) [
        | inl same ↦ rw same refl
        | inr other ↦ rw other rest
      ])
      | inr fails ↦ rw fails rest
    ]

where-rising : (low high : ℕ) (p : Planned → Bool) (ws : List Planned) → AreRising low high (map (λ w. w.block) ws) → AreRising low high (blocks_where p ws)
where-rising low high p [] r = tt
where-rising low high p (w ∷ ws) r = elim (cases_Bool (p w)) [
  | inl passes ↦ rw passes (r.0, r.1, where-rising (w.block + 1) high p ws r.2)
  | inr fails ↦ rw fails (rising-lower low (w.block + 1) high _ (omega (arith, r.0)) (where-rising (w.block + 1) high p ws r.2))
]

where-those : (homes : ℕ) (has : Planned → Type 0) (p : Planned → Bool) (ws : List Planned) → ((w : Planned) → p w ≡ true → has w) → ((w : Planned) → has w → p w ≡ true) → AreRising 0 homes (map (λ w. w.block) ws) → AreThose homes has ws (blocks_where p ws)
where-those homes has p ws is passes rising = record {
  only = λ x e. let found = where-among p ws x e in (found.0, found.1, found.2, is found.0 found.3);
  all = λ w at h. among-where p ws w at.0 at.1 at.2 (passes w h);
  rising = where-rising 0 homes p ws rising;
}

where-more : (p : Planned → Bool) (ws : List Planned) (i : ℕ) (d : Planned) → i < length ws → blocks_where p (take (i + 1) ws) ≡ blocks_where p (take i ws) ++ cond (p (get_or ws i d)) ((get_or ws i d).block ∷ []) []
where-more p ws i d l =
    let split : (b : Bool) (w : Planned) → map (λ (v : Planned). v.block) (cond b (w ∷ []) []) ≡ cond b (w.block ∷ []) [] = λ b w. elim b as (λ c. map (λ (v : Planned). v.block) (cond c (w ∷ []) []) ≡ cond c (w.block ∷ []) []) [ true ↦ refl | false ↦ refl ] in
    ap (map (λ (v : Planned). v.block)) (filter_more p ws i d l) ∙ map-append (λ (v : Planned). v.block) (filter p (take i ws)) _ ∙ ap (λ (xs : List ℕ). blocks_where p (take i ws) ++ xs) (split (p (get_or ws i d)) (get_or ws i d))

where-yes : (p : Planned → Bool) (ws : List Planned) (i : ℕ) (w : Planned) → i < length ws → w ≡ get_or ws i w → p w ≡ true → blocks_where p (take (i + 1) ws) ≡ blocks_where p (take i ws) ++ w.block ∷ []
where-yes p ws i w l is passes =
    let there : p (get_or ws i w) ≡ true = ap p (sym is) ∙ passes in
    where-more p ws i w l ∙ rw there (rw (← is) refl)

where-no : (p : Planned → Bool) (ws : List Planned) (i : ℕ) (w : Planned) → i < length ws → w ≡ get_or ws i w → p w ≡ false → blocks_where p (take (i + 1) ws) ≡ blocks_where p (take i ws)
where-no p ws i w l is fails =
    let there : p (get_or ws i w) ≡ false = ap p (sym is) ∙ fails in
    where-more p ws i w l ∙ rw there (append-nil (blocks_where p (take i ws)))

pub where-few : (p : Planned → Bool) (ws : List Planned) → length (blocks_where p ws) ≤ length ws
where-few p [] = omega arith
where-few p (w ∷ ws) = elim (cases_Bool (p w)) [
  | inl passes ↦ rw passes (omega (arith, where-few p ws))
  | inr fails ↦ rw fails (omega (arith, where-few p ws))
]

-- ---- a rising list is short

-- ---- writes in order

-- a write's block is in range
pub in_range : (low high : ℕ) (ws : List Planned) (w : Planned) (i : ℕ) → AreRising low high (map (λ v. v.block) ws) → i < length ws → get_or ws i w ≡ w → (low ≤ w.block) × (w.block < high)
in_range low high [] w i r l e = absurd (omega (arith, l))
in_range low high (v ∷ ws) w zero r l e = (let same = ap (λ (u : Planned). u.block) e in (omega (arith, same, r.0), omega (arith, same, r.1)))
in_range low high (v ∷ ws) w (suc i) r l e = (let rest = in_range (v.block + 1) high ws w i r.2 (omega (arith, l)) e in (omega (arith, rest.0, r.0), rest.1))

-- no block is written twice
pub same_write : (low high : ℕ) (ws : List Planned) (w v : Planned) (i j : ℕ) → AreRising low high (map (λ u. u.block) ws) → i < length ws → get_or ws i w ≡ w → j < length ws → get_or ws j v ≡ v → w.block ≡ v.block → w ≡ v
same_write low high [] w v i j r l e m f same = absurd (omega (arith, l))
same_write low high (u ∷ ws) w v zero zero r l e m f same = sym e ∙ f
same_write low high (u ∷ ws) w v zero (suc j) r l e m f same =
    let up = in_range (u.block + 1) high ws v j r.2 (omega (arith, m)) f in
    absurd (omega (arith, up.0, same, ap (λ (x : Planned). x.block) e))
same_write low high (u ∷ ws) w v (suc i) zero r l e m f same =
    let up = in_range (u.block + 1) high ws w i r.2 (omega (arith, l)) e in
    absurd (omega (arith, up.0, same, ap (λ (x : Planned). x.block) f))
same_write low high (u ∷ ws) w v (suc i) (suc j) r l e m f same = same_write (u.block + 1) high ws w v i j r.2 (omega (arith, l)) e (omega (arith, m)) f same

-- ---- the plan

-- the lists after these writes
pub record IsSoFar (g : Geometry) (queue front base : ℕ) (ws : List Planned) (logged direct revoked : List ℕ) : Type 0 where
  pub logged_is : logged ≡ blocks_where (stays g queue front) ws
  pub direct_is : direct ≡ blocks_where (goes_home g queue front) ws
  pub revoked_is : revoked ≡ blocks_where (is_revoked g queue front base) ws

module _ (g : Geometry) (queue front base : ℕ) (writes : List Planned) where
  logged_if : (w : Planned) → stays g queue front w ≡ true → IsDirect g queue front w → ⊥
  logged_if w e is = false≢true (sym (ap not (goes_home-true g queue front w is)) ∙ e)

  if_logged : (w : Planned) → (IsDirect g queue front w → ⊥) → stays g queue front w ≡ true
  if_logged w not_direct = elim (cases_Bool (goes_home g queue front w)) [
    | inl goes ↦ absurd (not_direct (goes_home-is g queue front w goes))
    | inr other ↦ ap not other
  ]

  revoked_if : (w : Planned) → is_revoked g queue front base w ≡ true → IsDirect g queue front w × IsCopied base w
  revoked_if w e = (let parts = and_parts (goes_home g queue front w) (nat_lt base w.last_logged) e in (goes_home-is g queue front w parts.0, ltb-true _ _ parts.1))

  if_revoked : (w : Planned) → IsDirect g queue front w × IsCopied base w → is_revoked g queue front base w ≡ true
  if_revoked w h = and_from _ _ (goes_home-true g queue front w h.0) (lt-ltb _ _ h.1)

  -- after all writes, the lists are a placement
  pub so_far-placement : (logged direct revoked : List ℕ) → AreInOrder g writes → IsSoFar g queue front base writes logged direct revoked → IsPlacement g queue front base writes (record { logged = logged; direct = direct; revoked = revoked })
  so_far-placement logged direct revoked order so = rw (so.logged_is, so.direct_is, so.revoked_is) (record {
    direct = where-those (homes_of g) (IsDirect g queue front) (goes_home g queue front) writes (goes_home-is g queue front) (goes_home-true g queue front) order;
    logged = where-those (homes_of g) (λ w. IsDirect g queue front w → ⊥) (stays g queue front) writes logged_if if_logged order;
    revoked = where-those (homes_of g) (λ w. IsDirect g queue front w × IsCopied base w) (is_revoked g queue front base) writes revoked_if if_revoked order;
  })

  -- each write is in one of two lists
  pub so_far-length : (logged direct revoked : List ℕ) → IsSoFar g queue front base writes logged direct revoked → length logged + length direct ≡ length writes
  so_far-length logged direct revoked so =
      let both = length-filter_both (goes_home g queue front) (stays g queue front) (λ w. refl) writes in
      rw (so.logged_is, so.direct_is) (simp length-map (omega (arith, both)))

module _ (g : Geometry) (queue front base : ℕ) (writes : List Planned) (i : ℕ) (w : Planned) (below : i < length writes) (is : w ≡ get_or writes i w) (logged direct revoked : List ℕ) (so : IsSoFar g queue front base (take i writes) logged direct revoked) where
  revokes_none : goes_home g queue front w ≡ false → is_revoked g queue front base w ≡ false
  revokes_none e = and_left _ _ e

  pub after_logged : (IsDirect g queue front w → ⊥) → IsSoFar g queue front base (take (i + 1) writes) (logged ++ w.block ∷ []) direct revoked
  after_logged other =
      let stays_there = if_logged g queue front base writes w other in
      let no : goes_home g queue front w ≡ false = false_from_ne_true _ (λ e. other (goes_home-is g queue front w e)) in
      record {
        logged_is = ap (λ (xs : List ℕ). xs ++ w.block ∷ []) so.logged_is ∙ sym (where-yes (stays g queue front) writes i w below is stays_there);
        direct_is = so.direct_is ∙ sym (where-no (goes_home g queue front) writes i w below is no);
        revoked_is = so.revoked_is ∙ sym (where-no (is_revoked g queue front base) writes i w below is (revokes_none no));
      }

  module _ (direct_one : IsDirect g queue front w) where
    goes : goes_home g queue front w ≡ true
    goes = goes_home-true g queue front w direct_one

    direct_then : direct ++ w.block ∷ [] ≡ blocks_where (goes_home g queue front) (take (i + 1) writes)
    direct_then = ap (λ (xs : List ℕ). xs ++ w.block ∷ []) so.direct_is ∙ sym (where-yes (goes_home g queue front) writes i w below is goes)

    logged_then : logged ≡ blocks_where (stays g queue front) (take (i + 1) writes)
    logged_then = so.logged_is ∙ sym (where-no (stays g queue front) writes i w below is (ap not goes))

    pub after_direct : (IsCopied base w → ⊥) → IsSoFar g queue front base (take (i + 1) writes) logged (direct ++ w.block ∷ []) revoked
    after_direct old =
        let no : is_revoked g queue front base w ≡ false = and_right _ _ (false_from_ne_true _ (λ e. old (ltb-true _ _ e))) in
        record {
          logged_is = logged_then;
          direct_is = direct_then;
          revoked_is = so.revoked_is ∙ sym (where-no (is_revoked g queue front base) writes i w below is no);
        }

    pub after_revoked : base < w.last_logged → IsSoFar g queue front base (take (i + 1) writes) logged (direct ++ w.block ∷ []) (revoked ++ w.block ∷ [])
    after_revoked new =
        let also : is_revoked g queue front base w ≡ true = and_from _ _ goes (lt-ltb _ _ new) in
        record {
          logged_is = logged_then;
          direct_is = direct_then;
          revoked_is = ap (λ (xs : List ℕ). xs ++ w.block ∷ []) so.revoked_is ∙ sym (where-yes (is_revoked g queue front base) writes i w below is also);
        }

  -- each list has room for one more
  pub short : (length logged ≤ i) × (length direct ≤ i) × (length revoked ≤ i)
  short =
      let taken : length (take i writes) ≡ i = length-take-le i writes (omega (arith, below)) in (
        rw so.logged_is (omega (arith, taken, where-few (stays g queue front) (take i writes))),
        rw so.direct_is (omega (arith, taken, where-few (goes_home g queue front) (take i writes))),
        rw so.revoked_is (omega (arith, taken, where-few (is_revoked g queue front base) (take i writes))),
      )
