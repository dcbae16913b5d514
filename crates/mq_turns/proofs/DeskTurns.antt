-- What each kind of step does to the turns.
use Rattle.std.proofs.Common.{◌≡◌, ◌≢◌, ℕ, suc, ◌+◌, ◌<◌, ◌≤◌, Bool, true, false, List, [], ◌∷◌, ◌++◌, length, get_or, set, sym, refl, ap, ◌∙◌, subst, ⊎_elim, inl, inr, arith, Option, Some, None, length-set, get_or-set_other, get_or-set_same}
use Rattle.std.proofs.lemmas.Bool.{cases_Bool}
use mathlib.Core.Logic.{dite}
use mathlib.Core.Option.{none, some}
use mathlib.Core.Option as maybe
use native.Mathlib.Decide.{ℕ_discrete}
use lib.ListN.{get_elem?}
use Rattle.atomic_table.proofs.Lists.{at_set, at_snoc, set_here, set_else}
use Rattle.mq_turns.specs.Meaning.{AreLaws, Meaning}
use Rattle.mq_blocks.specs.Totals.{total}
use Rattle.mq_turns.specs.Lists.{Each, tick, times, without}
use Rattle.mq_turns.specs.Desk.{hand_at, holders, hands, Now, refreshed, Stay, Holder, Turned, Turns, Stands}
use Rattle.mq_turns.specs.declared.rule.Known.{Known}
use Rattle.mq_turns.specs.declared.rule.ChairView.{ChairView}
use Rattle.mq_turns.specs.declared.turn.Turn.{Turn}
use Rattle.mq_turns.specs.declared.turn.Turn.TheVariants.{Page, Side, Root}
use Rattle.mq_turns.specs.declared.turn.Item.{Item}
use Rattle.mq_turns.specs.declared.turn.Item.TheVariants as item
use Rattle.mq_blocks.proofs.Totals.{total_set, total_same, total_one, total_two, total_gap, total_append, total_pair}
use Rattle.mq_turns.proofs.Lists.{hit, miss, times_without_other, times_without, each_without}
use Rattle.mq_turns.proofs.Meaning.{stays_now, stays_on}

abbrev pub Homes : Type 0 → Type 0 → Type 0 → Type 0 → Type 0 → Type 0
Homes M P Q R E = List (maybe.Option (Option (Item M P Q R E)))

module _ {P Q R E : Type 0} where
  -- what holds of the view that a step changed, and of the others
  pub chairs_stay : (F : ChairView P Q R E → Type 0) (vs : List (ChairView P Q R E)) (id : ℕ) (w : ChairView P Q R E) → F w → ((j : ℕ) (u : ChairView P Q R E) → j ≢ id → get_elem? vs j ≡ some u → F u)
      → (j : ℕ) (u : ChairView P Q R E) → get_elem? (set vs id w) j ≡ some u → F u
  chairs_stay F vs id w mine others j u e = ⊎_elim (λ (t : (j ≡ id) × (w ≡ u)). subst F t.1 mine) (λ (t : (j ≢ id) × (get_elem? vs j ≡ some u)). others j u t.0 t.1) (at_set vs id j w u e)

  same_single : (vs : List (ChairView P Q R E)) (id : ℕ) (v w : ChairView P Q R E) (k : ℕ) → get_elem? vs id ≡ some v → times k w.held ≡ times k v.held → holders k vs ≤ 1 → holders k (set vs id w) ≤ 1
  same_single vs id v w k at held one = let h = total_same (λ u. times k u.held) vs id v w at held in omega arith

  count_after : (vs : List (ChairView P Q R E)) (id : ℕ) (v w : ChairView P Q R E) (k : ℕ) → get_elem? vs id ≡ some v → holders k (set vs id w) + times k v.held ≡ holders k vs + times k w.held
  count_after vs id v w k at = total_set (λ u. times k u.held) vs id v w at

  in_hand_is_held : (k : ℕ) (u : ChairView P Q R E) → ((j : ℕ) → u.hand ≡ suc j → 0 < times j u.held) → hand_at k u ≤ times k u.held
  in_hand_is_held k u h = dite (ℕ_discrete u.hand (suc k)) (λ e. let o = hit u.hand (suc k) e in let p = h k e in omega arith) (λ ne. let o = miss u.hand (suc k) ne in omega arith)

  pub times_refreshed : (touched : ℕ → Bool) (L : Known P Q R E) (k : ℕ) (l : List (ℕ × Known P Q R E)) → times k (refreshed touched L l) ≡ times k l
  times_refreshed touched L k [] = refl
  times_refreshed touched L k (h ∷ hs) = let ih = times_refreshed touched L k hs in omega arith

module _ {P Q R E : Type 0} (μ : Meaning P Q R E) (turn : ℕ → Turn) where
  -- a step from K to L by a chair that holds each turn that it is about
  pub record Change (slots : ℕ) (touched : ℕ → Bool) (K L : Known P Q R E) (v : ChairView P Q R E) : Type 0 where
    pub ok : μ.ok L
    pub stays : (k : ℕ) → touched k ≡ false → Stay μ (turn k) K L
    pub mine : (k : ℕ) → k < slots → touched k ≡ true → 0 < times k v.held

  abbrev Kept : ℕ → Known P Q R E → ℕ × Known P Q R E → Type 0
  Kept slots L h = (h.0 < slots) × μ.ok h.1 × Stay μ (turn h.0) h.1 L

  held_refreshed : (slots : ℕ) (touched : ℕ → Bool) (K L : Known P Q R E) → μ.ok L → ((k : ℕ) → touched k ≡ false → Stay μ (turn k) K L) → (l : List (ℕ × Known P Q R E)) → Each (Kept slots K) l → Each (Kept slots L) (refreshed touched L l)
  held_refreshed slots touched K L ok stays [] a = tt
  held_refreshed slots touched K L ok stays (h ∷ hs) a = (
    elim (cases_Bool (touched h.0)) [
      | inl t ↦ rw t (a.0.0, ok, stays_now μ.touches μ.lies (turn h.0) L)
      | inr f ↦ rw f (a.0.0, a.0.1, stays_on μ.touches μ.lies (turn h.0) h.1 K L a.0.2 (stays h.0 f))
    ],
    held_refreshed slots touched K L ok stays hs a.1,
  )

  pub holds_none : (slots : ℕ) (K : Known P Q R E) (v : ChairView P Q R E) → v.hand ≡ 0 → v.held ≡ [] → Holder μ turn slots K v
  holds_none slots K v hand held = record { idle = λ z. held; hand = λ k e. absurd (omega arith); held = subst (Each (Kept slots K)) (sym held) tt }

  held_others : (slots : ℕ) (K L : Known P Q R E) (l : List (ℕ × Known P Q R E)) → ((k : ℕ) → k < slots → 0 < times k l → Stay μ (turn k) K L) → Each (Kept slots K) l → Each (Kept slots L) l
  held_others slots K L [] s a = tt
  held_others slots K L (h ∷ hs) s a = (
    (a.0.0, a.0.1, stays_on μ.touches μ.lies (turn h.0) h.1 K L a.0.2 (s h.0 a.0.0 (let one = hit h.0 h.0 refl in omega arith))),
    held_others slots K L hs (λ k lt more. s k lt (omega arith)) a.1,
  )

module _ {M P Q R E : Type 0} (μ : Meaning P Q R E) (turn : ℕ → Turn) where
  -- a value that nothing touched is what it was
  pub along : AreLaws μ → (t : Turn) (K L : Known P Q R E) (x : Item M P Q R E) → Stay μ t K L → μ.ok K → μ.ok L → Stands μ t K x → Stands μ t L x
  along laws (Page b) K L (item.Page p) s a b' h = laws.page_along b K L p s a b' h
  along laws (Page b) K L (item.Side q) s a b' h = absurd h
  along laws (Page b) K L (item.Root r) s a b' h = absurd h
  along laws (Side i) K L (item.Page p) s a b' h = absurd h
  along laws (Side i) K L (item.Side q) s a b' h = laws.side_along i K L q s a b' h
  along laws (Side i) K L (item.Root r) s a b' h = absurd h
  along laws Root K L (item.Page p) s a b' h = absurd h
  along laws Root K L (item.Side q) s a b' h = absurd h
  along laws Root K L (item.Root r) s a b' h = laws.root_along K L r s a b' h

  -- a turn that neither the step nor the view that changes names
  turn_stays : (K L : Known P Q R E) (s : Now M P Q R E) (words' : List ℕ) (homes' : Homes M P Q R E) (id : ℕ) (v w : ChairView P Q R E) (k : ℕ)
      → get_elem? s.views id ≡ some v → get_or words' k 0 ≡ get_or s.words k 0 → get_elem? homes' k ≡ get_elem? s.homes k
      → times k w.held ≡ times k v.held → hand_at k w ≡ hand_at k v → (holders k s.views ≡ 0 → (x : Item M P Q R E) → Stands μ (turn k) K x → Stands μ (turn k) L x)
      → Turned μ turn K s k → Turned μ turn L record { words = words'; homes = homes'; views = set s.views id w } k
  turn_stays K L s words' homes' id v w k at word home held hand same t =
      let h : holders k (set s.views id w) ≡ holders k s.views = total_same (λ u. times k u.held) s.views id v w at held in
      let g : hands k (set s.views id w) ≡ hands k s.views = total_same (hand_at k) s.views id v w at hand in
      record {
        word = word ∙ (t.word ∙ sym h);
        home = λ z. let z' : holders k s.views ≡ 0 = sym h ∙ z in let x = t.home z' in (x.0, home ∙ x.1, same z' x.0 x.2);
        away = λ z y. home ∙ t.away (sym h ∙ z) (sym g ∙ y);
      }

  -- nothing became known
  moved : (K : Known P Q R E) (s : Now M P Q R E) (r : Turns μ turn K s) (id : ℕ) (w : ChairView P Q R E) (words' : List ℕ) (homes' : Homes M P Q R E)
      → length words' ≡ length s.words → length homes' ≡ length s.homes → ((k : ℕ) → holders k (set s.views id w) ≤ 1) → Holder μ turn (length s.homes) K w
      → ((k : ℕ) → k < length s.homes → Turned μ turn K record { words = words'; homes = homes'; views = set s.views id w } k)
      → Turns μ turn K record { words = words'; homes = homes'; views = set s.views id w }
  moved K s r id w words' homes' wide deep single chair turns = record {
    wide = let x = r.wide in omega arith;
    ok = r.ok;
    single = single;
    each_turn = λ k l. turns k (omega arith);
    each_chair = let F : ℕ → Type 0 = λ n. (j : ℕ) (u : ChairView P Q R E) → get_elem? (set s.views id w) j ≡ some u → Holder μ turn n K u in
        subst F (sym deep) (chairs_stay (Holder μ turn (length s.homes) K) s.views id w chair (λ j u _ e. r.each_chair j u e));
  }

  -- a step on a word that is no turn's, by which nothing becomes known
  pub turns_look : (K : Known P Q R E) (s : Now M P Q R E) (id : ℕ) (v w : ChairView P Q R E) (words' : List ℕ) → Turns μ turn K s → get_elem? s.views id ≡ some v
      → w.parts ≡ v.parts → w.hand ≡ v.hand → w.held ≡ v.held → length words' ≡ length s.words → ((k : ℕ) → k < length s.homes → get_or words' k 0 ≡ get_or s.words k 0)
      → Turns μ turn K record { words = words'; homes = s.homes; views = set s.views id w }
  turns_look K s id v w words' r at parts hand held wide word =
      let c = r.each_chair id v at in
      let same : (k : ℕ) → times k w.held ≡ times k v.held = λ k. ap (times k) held in
      moved K s r id w words' s.homes wide refl
      (λ k. same_single s.views id v w k at (same k) (r.single k))
      record {
        idle = λ z. held ∙ c.idle (sym parts ∙ z);
        hand = λ k e. let x = c.hand k (sym hand ∙ e) in let y = same k in omega arith;
        held = subst (Each (Kept μ turn (length s.homes) K)) (sym held) c.held;
      }
      (λ k l. turn_stays K K s words' s.homes id v w k at (word k l) refl (same k) (ap (λ h. tick h (suc k)) hand) (λ _ x h. h) (r.each_turn k l))

  -- a step on a word that is no turn's, by which L is known
  pub turns_change : AreLaws μ → (touched : ℕ → Bool) (K L : Known P Q R E) (s : Now M P Q R E) (id : ℕ) (v w : ChairView P Q R E) (words' : List ℕ) → Turns μ turn K s → get_elem? s.views id ≡ some v
      → Change μ turn (length s.homes) touched K L v → w.parts ≡ v.parts → w.hand ≡ v.hand → w.held ≡ refreshed touched L v.held
      → length words' ≡ length s.words → ((k : ℕ) → k < length s.homes → get_or words' k 0 ≡ get_or s.words k 0)
      → Turns μ turn L record { words = words'; homes = s.homes; views = set s.views id w }
  turns_change laws touched K L s id v w words' r at c parts hand held wide word =
      let d = r.each_chair id v at in
      let same : (k : ℕ) → times k w.held ≡ times k v.held = λ k. ap (times k) held ∙ times_refreshed touched L k v.held in
      record {
        wide = let x = r.wide in omega arith;
        ok = c.ok;
        single = λ k. same_single s.views id v w k at (same k) (r.single k);
        each_turn = λ k l. turn_stays K L s words' s.homes id v w k at (word k l) refl (same k) (ap (λ h. tick h (suc k)) hand)
            (λ z x h. elim (cases_Bool (touched k)) [
              | inl y ↦ absurd (let a = c.mine k l y in let b = total_one (λ u. times k u.held) s.views id v at in omega arith)
              | inr f ↦ along laws (turn k) K L x (c.stays k f) r.ok c.ok h
            ]) (r.each_turn k l);
        each_chair = chairs_stay (Holder μ turn (length s.homes) L) s.views id w
            record {
              idle = λ z. held ∙ ap (refreshed touched L) (d.idle (sym parts ∙ z));
              hand = λ k e. let x = d.hand k (sym hand ∙ e) in let y = same k in omega arith;
              held = subst (Each (Kept μ turn (length s.homes) L)) (sym held) (held_refreshed μ turn (length s.homes) touched K L c.ok c.stays v.held d.held);
            }
            (λ j u ne o.
            let f = r.each_chair j u o in
            record {
              idle = f.idle;
              hand = f.hand;
              held = held_others μ turn (length s.homes) K L u.held (λ k lt more. elim (cases_Bool (touched k)) [
                | inl y ↦ absurd (let a = c.mine k lt y in let two = total_two (λ x. times k x.held) s.views id j v u at o ne in let one = r.single k in omega arith)
                | inr n ↦ c.stays k n
              ]) f.held;
            });
      }

  -- a turn that is free is taken, with its slot
  pub turns_take : (K : Known P Q R E) (s : Now M P Q R E) (id k : ℕ) (v w : ChairView P Q R E) → Turns μ turn K s → get_elem? s.views id ≡ some v → k < length s.homes → holders k s.views ≡ 0
      → 0 < v.parts → v.hand ≡ 0 → w.parts ≡ v.parts → w.hand ≡ suc k → w.held ≡ (k, K) ∷ v.held
      → Turns μ turn K record { words = set s.words k 1; homes = set s.homes k none; views = set s.views id w }
  turns_take K s id k v w r at lt free live empty parts hand held =
      let c = r.each_chair id v at in
      let words' : List ℕ = set s.words k 1 in
      let homes' : Homes M P Q R E = set s.homes k none in
      let one : tick k k ≡ 1 = hit k k refl in
      let mine : (j : ℕ) → times j w.held ≡ tick k j + times j v.held = λ j. ap (times j) held in
      let held_k = mine k in
      let count = count_after s.views id v w k at in
      let held_now : holders k (set s.views id w) ≡ 1 = let z = total_one (λ u. times k u.held) s.views id v at in omega arith in
      let in_hand : hand_at k w ≡ 1 = hit w.hand (suc k) hand in
      let hands_now = total_set (hand_at k) s.views id v w at in
      let not_in_hand : hand_at k v ≡ 0 = miss v.hand (suc k) (λ e. omega arith) in
      let other : (j : ℕ) → j ≢ k → times j w.held ≡ times j v.held = λ j ne. (let z = miss k j (λ e. ne (sym e)) in let y = mine j in omega arith) in
      let wide = r.wide in
      moved K s r id w words' homes' (length-set s.words k 1) (length-set s.homes k none)
      (λ j. dite (ℕ_discrete j k) (λ e. subst (λ i. holders i (set s.views id w) ≤ 1) (sym e) (omega arith)) (λ ne. same_single s.views id v w j at (other j ne) (r.single j)))
      record {
        idle = λ z. absurd (omega arith);
        hand = λ j e. let z : tick k j ≡ 1 = hit k j (omega arith) in let y = mine j in omega arith;
        held = subst (Each (Kept μ turn (length s.homes) K)) (sym held) ((lt, r.ok, stays_now μ.touches μ.lies (turn k) K), c.held);
      }
      (λ j l. dite (ℕ_discrete j k)
      (λ e. subst (Turned μ turn K record { words = words'; homes = homes'; views = set s.views id w }) (sym e) record {
        word = get_or-set_same s.words k 1 0 (omega arith) ∙ sym held_now;
        home = λ z. absurd (omega arith);
        away = λ _ z. absurd (omega arith);
      })
      (λ ne. turn_stays K K s words' homes' id v w j at (get_or-set_other s.words k j 1 0 ne) (set_else s.homes k j none ne) (other j ne)
      (miss w.hand (suc j) (λ e. ne (omega arith)) ∙ sym (miss v.hand (suc j) (λ e. omega arith))) (λ _ y h. h) (r.each_turn j l)))

  -- the slot that was emptied goes home
  pub turns_settle : (K : Known P Q R E) (s : Now M P Q R E) (id k : ℕ) (v w : ChairView P Q R E) → Turns μ turn K s → get_elem? s.views id ≡ some v → k < length s.homes
      → v.hand ≡ suc k → w.parts ≡ v.parts → w.hand ≡ 0 → w.held ≡ v.held
      → Turns μ turn K record { words = s.words; homes = set s.homes k (some None); views = set s.views id w }
  turns_settle K s id k v w r at lt was parts hand held =
      let c = r.each_chair id v at in
      let homes' : Homes M P Q R E = set s.homes k (some None) in
      let mine : 0 < times k v.held = c.hand k was in
      let same : (j : ℕ) → times j w.held ≡ times j v.held = λ j. ap (times j) held in
      let some_hold = total_one (λ u. times k u.held) s.views id v at in
      let count = count_after s.views id v w k at in
      let same_k = same k in
      moved K s r id w s.words homes' refl (length-set s.homes k (some None))
      (λ j. same_single s.views id v w j at (same j) (r.single j))
      record { idle = λ z. held ∙ c.idle (sym parts ∙ z); hand = λ j e. absurd (omega arith); held = subst (Each (Kept μ turn (length s.homes) K)) (sym held) c.held }
      (λ j l. dite (ℕ_discrete j k)
      (λ e. let t = r.each_turn k lt in subst (Turned μ turn K record { words = s.words; homes = homes'; views = set s.views id w }) (sym e) record {
        word = let h = t.word in omega arith;
        home = λ z. absurd (omega arith);
        away = λ _ _. set_here s.homes k (some None) lt;
      })
      (λ ne. turn_stays K K s s.words homes' id v w j at refl (set_else s.homes k j (some None) ne) (same j)
      (miss w.hand (suc j) (λ e. omega arith) ∙ sym (miss v.hand (suc j) (λ e. ne (omega arith)))) (λ _ y h. h) (r.each_turn j l)))

  -- the empty slot is at home where its holder has not got it in hand
  pub away_empty : (K : Known P Q R E) (s : Now M P Q R E) (id k : ℕ) (v : ChairView P Q R E) → Turns μ turn K s → get_elem? s.views id ≡ some v → k < length s.homes → v.hand ≡ 0 → 0 < times k v.held
      → get_elem? s.homes k ≡ some (some None)
  away_empty K s id k v r at lt hand mine =
      let t = r.each_turn k lt in
      let some_hold = total_one (λ u. times k u.held) s.views id v at in
      let alone = r.single k in
      let not_in_hand : hand_at k v ≡ 0 = miss v.hand (suc k) (λ e. omega arith) in
      let gap = total_gap (hand_at k) (λ u. times k u.held) s.views id v at (λ j u o. in_hand_is_held k u (r.each_chair j u o).hand) in
      t.away (omega arith) (omega arith)

  -- the empty slot comes into hand
  pub turns_reach : (K : Known P Q R E) (s : Now M P Q R E) (id k : ℕ) (v w : ChairView P Q R E) → Turns μ turn K s → get_elem? s.views id ≡ some v → k < length s.homes
      → v.hand ≡ 0 → 0 < times k v.held → w.parts ≡ v.parts → w.hand ≡ suc k → w.held ≡ v.held
      → Turns μ turn K record { words = s.words; homes = set s.homes k none; views = set s.views id w }
  turns_reach K s id k v w r at lt was mine parts hand held =
      let c = r.each_chair id v at in
      let t = r.each_turn k lt in
      let homes' : Homes M P Q R E = set s.homes k none in
      let same : (j : ℕ) → times j w.held ≡ times j v.held = λ j. ap (times j) held in
      let some_hold = total_one (λ u. times k u.held) s.views id v at in
      let now = total_set (hand_at k) s.views id v w at in
      let not_in_hand : hand_at k v ≡ 0 = miss v.hand (suc k) (λ e. omega arith) in
      let in_hand : hand_at k w ≡ 1 = hit w.hand (suc k) hand in
      let count = count_after s.views id v w k at in
      let same_k = same k in
      moved K s r id w s.words homes' refl (length-set s.homes k none)
      (λ j. same_single s.views id v w j at (same j) (r.single j))
      record {
        idle = λ z. held ∙ c.idle (sym parts ∙ z);
        hand = λ j e. let i : k ≡ j = omega arith in subst (λ n. 0 < times n w.held) i (omega arith);
        held = subst (Each (Kept μ turn (length s.homes) K)) (sym held) c.held;
      }
      (λ j l. dite (ℕ_discrete j k)
      (λ e. subst (Turned μ turn K record { words = s.words; homes = homes'; views = set s.views id w }) (sym e) record {
        word = let h = t.word in omega arith;
        home = λ z. absurd (omega arith);
        away = λ _ z. absurd (omega arith);
      })
      (λ ne. turn_stays K K s s.words homes' id v w j at refl (set_else s.homes k j none ne) (same j)
      (miss w.hand (suc j) (λ e. ne (omega arith)) ∙ sym (miss v.hand (suc j) (λ e. omega arith))) (λ _ y h. h) (r.each_turn j l)))

  -- the slot in hand goes home with a value that stands, and the turn is free
  pub turns_free : (K : Known P Q R E) (s : Now M P Q R E) (id k : ℕ) (v w : ChairView P Q R E) (x : Item M P Q R E) → Turns μ turn K s → get_elem? s.views id ≡ some v → k < length s.homes
      → v.hand ≡ suc k → Stands μ (turn k) K x → w.parts ≡ v.parts → w.hand ≡ 0 → w.held ≡ without k v.held
      → Turns μ turn K record { words = set s.words k 0; homes = set s.homes k (some (Some x)); views = set s.views id w }
  turns_free K s id k v w x r at lt was stands parts hand held =
      let c = r.each_chair id v at in
      let words' : List ℕ = set s.words k 0 in
      let homes' : Homes M P Q R E = set s.homes k (some (Some x)) in
      let mine : 0 < times k v.held = c.hand k was in
      let some_hold = total_one (λ u. times k u.held) s.views id v at in
      let alone = r.single k in
      let wide = r.wide in
      let count = count_after s.views id v w k at in
      let gone : times k w.held ≡ 0 = ap (times k) held ∙ times_without k v.held in
      let other : (j : ℕ) → j ≢ k → times j w.held ≡ times j v.held = λ j ne. ap (times j) held ∙ times_without_other k j v.held ne in
      let free : holders k (set s.views id w) ≡ 0 = omega arith in
      moved K s r id w words' homes' (length-set s.words k 0) (length-set s.homes k (some (Some x)))
      (λ j. dite (ℕ_discrete j k) (λ e. subst (λ i. holders i (set s.views id w) ≤ 1) (sym e) (omega arith)) (λ ne. same_single s.views id v w j at (other j ne) (r.single j)))
      record {
        idle = λ z. held ∙ ap (without k) (c.idle (sym parts ∙ z));
        hand = λ j e. absurd (omega arith);
        held = subst (Each (Kept μ turn (length s.homes) K)) (sym held) (each_without (Kept μ turn (length s.homes) K) k v.held c.held);
      }
      (λ j l. dite (ℕ_discrete j k)
      (λ e. subst (Turned μ turn K record { words = words'; homes = homes'; views = set s.views id w }) (sym e) record {
        word = get_or-set_same s.words k 0 0 (omega arith) ∙ sym free;
        home = λ _. (x, set_here s.homes k (some (Some x)) lt, stands);
        away = λ z. absurd (omega arith);
      })
      (λ ne. turn_stays K K s words' homes' id v w j at (get_or-set_other s.words k j 0 0 ne) (set_else s.homes k j (some (Some x)) ne) (other j ne)
      (miss w.hand (suc j) (λ e. omega arith) ∙ sym (miss v.hand (suc j) (λ e. ne (omega arith)))) (λ _ y h. h) (r.each_turn j l)))

  -- a view is cut in two, and the new one holds nothing
  pub turns_split : (K : Known P Q R E) (s : Now M P Q R E) (id : ℕ) (v w o : ChairView P Q R E) → Turns μ turn K s → get_elem? s.views id ≡ some v
      → w.hand ≡ v.hand → w.held ≡ v.held → (w.parts ≡ 0 → v.held ≡ []) → o.hand ≡ 0 → o.held ≡ []
      → Turns μ turn K record { words = s.words; homes = s.homes; views = set s.views id w ++ o ∷ [] }
  turns_split K s id v w o r at hand held idle no_hand none_held =
      let vs : List (ChairView P Q R E) = set s.views id w in
      let c = r.each_chair id v at in
      let more : (f : ChairView P Q R E → ℕ) → f w + f o ≡ f v → total f (vs ++ o ∷ []) ≡ total f s.views = λ f h. (let x = total_append f vs (o ∷ []) in let y = total_set f s.views id v w at in omega arith) in
      let same : (k : ℕ) → times k w.held ≡ times k v.held = λ k. ap (times k) held in
      let holders_same : (k : ℕ) → holders k (vs ++ o ∷ []) ≡ holders k s.views = λ k. more (λ u. times k u.held) (let x = same k in let y : times k o.held ≡ 0 = ap (times k) none_held in omega arith) in
      let hands_same : (k : ℕ) → hands k (vs ++ o ∷ []) ≡ hands k s.views = λ k. more (hand_at k) (let x : hand_at k w ≡ hand_at k v = ap (λ h. tick h (suc k)) hand in let y : hand_at k o ≡ 0 = miss o.hand (suc k) (λ e. omega arith) in omega arith) in
      record {
        wide = r.wide;
        ok = r.ok;
        single = λ k. let h = holders_same k in let z = r.single k in omega arith;
        each_turn = λ k l. turned_along k (holders_same k) (hands_same k) (r.each_turn k l);
        each_chair = λ j u e. ⊎_elim
            (λ (x : get_elem? vs j ≡ some u). ⊎_elim
            (λ (t : (j ≡ id) × (w ≡ u)). subst (Holder μ turn (length s.homes) K) t.1
            record { idle = λ z. held ∙ idle z; hand = λ k y. let a = c.hand k (sym hand ∙ y) in let b = same k in omega arith; held = subst (Each (Kept μ turn (length s.homes) K)) (sym held) c.held })
            (λ (t : (j ≢ id) × (get_elem? s.views j ≡ some u)). r.each_chair j u t.1) (at_set s.views id j w u x))
            (λ (t : o ≡ u). subst (Holder μ turn (length s.homes) K) t (holds_none μ turn (length s.homes) K o no_hand none_held)) (at_snoc vs o u j e);
      }
    where
      turned_along : (k : ℕ) → holders k (set s.views id w ++ o ∷ []) ≡ holders k s.views → hands k (set s.views id w ++ o ∷ []) ≡ hands k s.views → Turned μ turn K s k
          → Turned μ turn K record { words = s.words; homes = s.homes; views = set s.views id w ++ o ∷ [] } k
      turned_along k h g t = record { word = t.word ∙ sym h; home = λ z. t.home (sym h ∙ z); away = λ y z. t.away (sym h ∙ y) (sym g ∙ z) }

  -- a view takes in another's, which holds nothing
  pub turns_join : (K : Known P Q R E) (s : Now M P Q R E) (id : ℕ) (v : ChairView P Q R E) (other : ℕ) (w b z : ChairView P Q R E) → Turns μ turn K s → get_elem? s.views id ≡ some v
      → other ≢ id → get_elem? (set s.views id b) other ≡ some w → w.hand ≡ 0 → w.held ≡ [] → b.hand ≡ v.hand → b.held ≡ v.held → (b.parts ≡ 0 → v.parts ≡ 0) → z.hand ≡ 0 → z.held ≡ []
      → Turns μ turn K record { words = s.words; homes = s.homes; views = set (set s.views id b) other z }
  turns_join K s id v other w b z r at apart there no_hand none_held hand held idle z_hand z_held =
      let vs : List (ChairView P Q R E) = set (set s.views id b) other z in
      let c = r.each_chair id v at in
      let same : (f : ChairView P Q R E → ℕ) → f b + f z ≡ f v + f w → total f vs ≡ total f s.views = λ f h. total_pair f s.views id other v b w z at there h in
      let same_held : (k : ℕ) → times k b.held ≡ times k v.held = λ k. ap (times k) held in
      let holders_same : (k : ℕ) → holders k vs ≡ holders k s.views = λ k. same (λ u. times k u.held)
      (let x = same_held k in let y : times k w.held ≡ 0 = ap (times k) none_held in let u : times k z.held ≡ 0 = ap (times k) z_held in omega arith) in
      let hands_same : (k : ℕ) → hands k vs ≡ hands k s.views = λ k. same (hand_at k)
      (let x : hand_at k b ≡ hand_at k v = ap (λ h. tick h (suc k)) hand in let y : hand_at k w ≡ 0 = miss w.hand (suc k) (λ e. omega arith) in let u : hand_at k z ≡ 0 = miss z.hand (suc k) (λ e. omega arith) in omega arith) in
      record {
        wide = r.wide;
        ok = r.ok;
        single = λ k. let h = holders_same k in let y = r.single k in omega arith;
        each_turn = λ k l. let t = r.each_turn k l in record {
          word = t.word ∙ sym (holders_same k);
          home = λ y. t.home (sym (holders_same k) ∙ y);
          away = λ x y. t.away (sym (holders_same k) ∙ x) (sym (hands_same k) ∙ y);
        };
        each_chair = λ j u e. ⊎_elim
            (λ (t : (j ≡ other) × (z ≡ u)). subst (Holder μ turn (length s.homes) K) t.1 (holds_none μ turn (length s.homes) K z z_hand z_held))
            (λ (x : (j ≢ other) × (get_elem? (set s.views id b) j ≡ some u)). ⊎_elim
            (λ (t : (j ≡ id) × (b ≡ u)). subst (Holder μ turn (length s.homes) K) t.1
            record { idle = λ y. held ∙ c.idle (idle y); hand = λ k y. let a = c.hand k (sym hand ∙ y) in let d = same_held k in omega arith; held = subst (Each (Kept μ turn (length s.homes) K)) (sym held) c.held })
            (λ (t : (j ≢ id) × (get_elem? s.views j ≡ some u)). r.each_chair j u t.1) (at_set s.views id j b u x.1))
            (at_set (set s.views id b) other j z u e);
      }
