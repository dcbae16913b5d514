-- Each kind of step keeps the rule, layer by layer, and shows what is stated of it.
use Rattle.std.proofs.Common.{◌≡◌, ℕ, zero, suc, ◌+◌, ◌*◌, ◌%◌, ◌^◌, ◌<◌, Bool, List, [], ◌∷◌, length, get_or, set, sym, refl, ap, ◌∙◌, subst, arith, Option, Some, None, IfSome, length-set, get_or-set_other, get_or-set_same, mod-eq_of_lt}
use Rattle.std.specs.Option.{option_map}
use mathlib.Core.Logic.{dite}
use mathlib.Core.Option.{none, some}
use native.Mathlib.Decide.{ℕ_discrete}
use lib.ListN.{get_elem?}
use lib.Seq.{set-get_or}
use Rattle.atomic_table.specs.Table.{step, keeps, takes, gives, carried_after, Allows}
use Rattle.atomic_table.proofs.Lists.{set_again}
use Rattle.mq_turns.specs.Meaning.{AreLaws, Meaning, Stays, newest, drawn}
use Rattle.mq_turns.specs.Lists.{Each, times, without}
use Rattle.mq_turns.specs.Desk.{slots, IsTurn, slot_of, turn_at, holders, sits, Sat, Now, Stay, Sees, Covers, MayRead, Follows, IsInOrder, Below, allotment, after_draw, after_look, Turns, Numbers, Words, Sessions, Ruled, Stands, taken, settled, reached, freed, drew_one, looked}
use Rattle.mq_turns.specs.declared.rule.Opening.{Opening}
use Rattle.mq_turns.specs.declared.rule.Known.{Known}
use Rattle.mq_turns.specs.declared.rule.ChairView.{ChairView}
use Rattle.mq_turns.specs.declared.turn.Turn.{Turn}
use Rattle.mq_turns.specs.declared.turn.Item.{Item}
use Rattle.mq_turns.proofs.Lists.{each_map}
use Rattle.mq_turns.proofs.Meaning.{stays_drawn, grows_now, grows_drawn}
use Rattle.mq_turns.proofs.DeskTurns.{Change, Homes, turns_look, turns_change, turns_take, turns_settle, turns_reach, turns_free, away_empty}
use Rattle.mq_turns.proofs.DeskNumbers.{newest_few, numbers_stay, numbers_look, numbers_draw, room_left, below_newest}
use Rattle.mq_turns.proofs.DeskSessions.{sessions_stay, sessions_draw}
use Rattle.mq_turns.proofs.MarksClaims.{marked_drawn}
use Rattle.mq_turns.proofs.MarksReadings.{words_same, words_stay}
use Rattle.mq_turns.proofs.DeskOrder.{order_draw, order_look}
use Rattle.mq_turns.proofs.DeskSlots.{turn_at_slot, turn_of_slot, slot_of_turn}

told_one : {E : Type 0} (o : Option E) (e d : E) (F : E → Type 0) → o ≡ Some e → o ≡ Some d → F e → F d
told_one {E} o e d F a b h = let some : Some e ≡ Some d = sym a ∙ b in let same : e ≡ d = cc in subst F same h

none_told : {E : Type 0} (o : Option E) (d : E) → o ≡ None → o ≡ Some d → ⊥
none_told {E} o d a b = let e : None ≡ Some d = sym a ∙ b in cc

module _ {M P Q R E : Type 0} (μ : Meaning P Q R E) (o : Opening P Q R) (chairs : ℕ) where
  abbrev Rule : Now M P Q R E → Type 0
  Rule = Ruled μ o chairs

  at_hand : (T : Sat M P Q R E → Type 0) (me : Sat M P Q R E) (c : List (ℕ × Option (Item M P Q R E))) → me.1 ≡ c → T (me.0, c) → T me
  at_hand T me c e t = let F : List (ℕ × Option (Item M P Q R E)) → Type 0 = λ cs. T (me.0, cs) in subst F (sym e) t

  -- what the rule shows a chair
  pub sees : (K : Known P Q R E) (s : Now M P Q R E) (id : ℕ) (v : ChairView P Q R E) → K.opening ≡ o → Turns μ (turn_at o) K s → Numbers μ chairs K s → Words μ K s → Sessions μ K s → get_elem? s.views id ≡ some v → 0 < v.parts → Sees μ v K
  sees K s id v is r n x y at live =
      let c = r.each_chair id v at in
      let d = n.each_chair id v at in
      let t = y.each_chair id v at in
      let F : Opening P Q R → Type 0 = λ p. Each (λ h. μ.ok h.1 × Stay μ (turn_at p h.0) h.1 K) v.held in
      record {
        opening = d.opening (λ e. omega arith);
        ok = r.ok;
        few = newest_few μ chairs K s n;
        held = subst F (sym is) (each_map _ _ (λ h a. (a.1, a.2)) v.held c.held);
        seen = d.seen;
        drew = d.drew;
        marked = x.marked;
        reader = (x.each_chair id v at);
        own = λ m e there is. t.drew m e there (subst (λ i. 0 < sits i v) (sym is) (t.own (λ z. omega arith)));
      }

  -- a turn that is free is taken, with its slot; else nothing changes
  pub takes_turn : (deep id : ℕ) (me : Sat M P Q R E) (k : ℕ) → k < deep → me.0.hand ≡ 0 → me.1 ≡ [] → 0 < me.0.parts
      → Allows Rule deep id me k (λ _. 1) (taken μ (step deep k 1 0 none) me)
  takes_turn deep id me k lt empty bare live s rk len at fits =
      let K : Known P Q R E = rk.0 in
      let r = rk.2 in
      let n = rk.3 in
      let v : ChairView P Q R E = me.0 in
      let t = r.each_turn k (omega arith) in
      dite (ℕ_discrete (get_or s.words k 0) 0)
      (λ free.
      let none_holds : holders k s.views ≡ 0 = sym t.word ∙ free in
      let x = t.home none_holds in
      let w : ChairView P Q R E = record v { hand = suc k; held = (k, K) ∷ v.held } in
      let G : Opening P Q R → Type 0 = λ p. Stands μ (turn_at p k) K x.0 in (
        w,
        takes k (Some x.0),
        x.1,
        (
          K,
          rk.1,
          turns_take μ (turn_at o) K s id k v w r at (omega arith) none_holds live empty refl refl refl,
          numbers_stay μ chairs K s id v w (set s.words k 1) (set s.homes k none) n at (length-set s.homes k none) (get_or-set_other s.words k (length s.homes) 1 0 (λ e. omega arith)) refl refl refl refl refl refl,
          words_same μ K s id v w (set s.words k 1) (set s.homes k none) rk.4 at (length-set s.words k 1) (length-set s.homes k none) (λ j far. get_or-set_other s.words k j 1 0 (λ e. omega arith)) refl refl,
          sessions_stay μ K K s id v w (set s.words k 1) (set s.homes k none) rk.5 at refl refl refl refl refl refl,
        ),
        ((λ _. (x.0, K, ap (λ (cs : List (ℕ × Option (Item M P Q R E))). (w, (k, Some x.0) ∷ cs)) bare, sees K s id v rk.1 r n rk.4 rk.5 at live, subst G (sym rk.1) x.2)), (λ ne. absurd (ne free))),
      ))
      (λ taken_already.
      let was : get_or s.words k 0 ≡ 1 = let one = r.single k in let i = t.word in omega arith in
      let same : set s.words k 1 ≡ s.words = ap (set s.words k) (sym was) ∙ set-get_or s.words k 0 in (
        v,
        keeps,
        tt,
        subst (λ (z : List ℕ × List (ChairView P Q R E)). Rule record { words = z.0; homes = s.homes; views = z.1 }) (λ i. (sym same i, sym (set_again s.views id v at) i)) rk,
        ((λ z. absurd (taken_already z)), (λ _. refl)),
      ))

  -- the slot that was emptied goes home
  pub settles : (deep id : ℕ) (me : Sat M P Q R E) (k : ℕ) → k < deep → me.0.hand ≡ suc k → me.1 ≡ (k, None) ∷ []
      → Allows Rule deep id me k (λ n. n) (settled (step deep k 0 0 none) me)
  settles deep id me k lt hand bare = at_hand (λ z. Allows Rule deep id z k (λ n. n) (settled (step deep k 0 0 none) z)) me ((k, None) ∷ []) bare (λ s rk len at fits.
      let K : Known P Q R E = rk.0 in
      let v : ChairView P Q R E = me.0 in
      let w : ChairView P Q R E = record v { hand = 0 } in
      let homes' : Homes M P Q R E = set s.homes k (some None) in (
        w,
        gives,
        tt,
        subst (λ (ws : List ℕ). Rule record { words = ws; homes = homes'; views = set s.views id w }) (sym (set-get_or s.words k 0)) (
          K,
          rk.1,
          turns_settle μ (turn_at o) K s id k v w rk.2 at (omega arith) hand refl refl refl,
          numbers_stay μ chairs K s id v w s.words homes' rk.3 at (length-set s.homes k (some None)) refl refl refl refl refl refl refl,
          words_same μ K s id v w s.words homes' rk.4 at refl (length-set s.homes k (some None)) (λ j far. refl) refl refl,
          sessions_stay μ K K s id v w s.words homes' rk.5 at refl refl refl refl refl refl,
        ),
        refl,
      ))

  -- the empty slot comes into hand
  pub reaches : (deep id : ℕ) (me : Sat M P Q R E) (k : ℕ) → k < deep → me.0.hand ≡ 0 → 0 < times k me.0.held → me.1 ≡ []
      → Allows Rule deep id me k (λ n. n) (reached (step deep k 0 0 none) me)
  reaches deep id me k lt hand mine bare = at_hand (λ z. Allows Rule deep id z k (λ n. n) (reached (step deep k 0 0 none) z)) me [] bare (λ s rk len at fits.
      let K : Known P Q R E = rk.0 in
      let v : ChairView P Q R E = me.0 in
      let w : ChairView P Q R E = record v { hand = suc k } in
      let homes' : Homes M P Q R E = set s.homes k none in (
        w,
        takes k None,
        away_empty μ (turn_at o) K s id k v rk.2 at (omega arith) hand mine,
        subst (λ (ws : List ℕ). Rule record { words = ws; homes = homes'; views = set s.views id w }) (sym (set-get_or s.words k 0)) (
          K,
          rk.1,
          turns_reach μ (turn_at o) K s id k v w rk.2 at (omega arith) hand mine refl refl refl,
          numbers_stay μ chairs K s id v w s.words homes' rk.3 at (length-set s.homes k none) refl refl refl refl refl refl refl,
          words_same μ K s id v w s.words homes' rk.4 at refl (length-set s.homes k none) (λ j far. refl) refl refl,
          sessions_stay μ K K s id v w s.words homes' rk.5 at refl refl refl refl refl refl,
        ),
        refl,
      ))

  -- the slot in hand goes home with a value that is what the chair says, and the turn is free
  pub frees_turn : (deep id : ℕ) (me : Sat M P Q R E) (k : ℕ) (x : Item M P Q R E) → k < deep → me.0.hand ≡ suc k → 0 < me.0.parts → ((K : Known P Q R E) → Sees μ me.0 K → Stands μ (turn_at o k) K x)
      → me.1 ≡ (k, Some x) ∷ [] → Allows Rule deep id me k (λ _. 0) (λ _. freed (step deep k 0 0 none) me 0)
  frees_turn deep id me k x lt hand live stands bare = at_hand (λ z. Allows Rule deep id z k (λ _. 0) (λ _. freed (step deep k 0 0 none) z 0)) me ((k, Some x) ∷ []) bare (λ s rk len at fits.
      let K : Known P Q R E = rk.0 in
      let v : ChairView P Q R E = me.0 in
      let w : ChairView P Q R E = record v { hand = 0; held = without k v.held } in
      let homes' : Homes M P Q R E = set s.homes k (some (Some x)) in (
        w,
        gives,
        tt,
        (
          K,
          rk.1,
          turns_free μ (turn_at o) K s id k v w x rk.2 at (omega arith) hand (stands K (sees K s id v rk.1 rk.2 rk.3 rk.4 rk.5 at live)) refl refl refl,
          numbers_stay μ chairs K s id v w (set s.words k 0) homes' rk.3 at (length-set s.homes k (some (Some x))) (get_or-set_other s.words k (length s.homes) 0 0 (λ e. omega arith)) refl refl refl refl refl refl,
          words_same μ K s id v w (set s.words k 0) homes' rk.4 at (length-set s.words k 0) (length-set s.homes k (some (Some x))) (λ j far. get_or-set_other s.words k j 0 0 (λ e. omega arith)) refl refl,
          sessions_stay μ K K s id v w (set s.words k 0) homes' rk.5 at refl refl refl refl refl refl,
        ),
        refl,
      ))

  -- the counter is read, and an entry with it, if there is one
  pub looks : (deep id : ℕ) (me : Sat M P Q R E) (word : ℕ) (e : Option E) → word ≡ deep → 0 < me.0.parts → ((d : E) → e ≡ Some d → MayRead μ d me.0 × Follows μ d me.0)
      → Allows Rule deep id me word (λ n. n) (looked μ e (step deep word 0 0 none) me)
  looks deep id me word e is live may s rk len at fits =
      let K : Known P Q R E = rk.0 in
      let v : ChairView P Q R E = me.0 in
      let r = rk.2 in
      let n = rk.3 in
      let seen = sees K s id v rk.1 r n rk.4 rk.5 at live in
      let w : ChairView P Q R E = after_look e K v in
      let now : get_or s.words word 0 ≡ newest K = ap (λ i. get_or s.words i 0) (is ∙ sym len) ∙ n.counter in
      let d = n.each_chair id v at in
      let below = below_newest μ (allotment chairs) K v d in
      let order : v.parts ≡ 1 → IsInOrder μ w = λ one. order_look μ e K v (λ x y. (may x y).1) below.1 d.read (d.order one) in (
        w,
        keeps,
        tt,
        subst (λ (ws : List ℕ). Rule record { words = ws; homes = s.homes; views = set s.views id w }) (sym (set-get_or s.words word 0)) (
          K,
          rk.1,
          turns_look μ (turn_at o) K s id v w s.words r at (same (λ u. u.parts) e K v refl (λ _. refl)) (same (λ u. u.hand) e K v refl (λ _. refl)) (same (λ u. u.held) e K v refl (λ _. refl)) refl (λ _ _. refl),
          numbers_look μ chairs K s id v w s.words n at refl (same (λ u. u.parts) e K v refl (λ _. refl)) (same (λ u. u.opening) e K v refl (λ _. refl)) (same_seen e K v) (same (λ u. u.drawn) e K v refl (λ _. refl)) (reads e K v seen (λ x y. (may x y).0) d.read) order,
          words_same μ K s id v w s.words s.homes rk.4 at refl refl (λ j far. refl) (same (λ u. u.parts) e K v refl (λ _. refl)) (same (λ u. u.reading) e K v refl (λ _. refl)),
          sessions_stay μ K K s id v w s.words s.homes rk.5 at refl refl (same (λ u. u.parts) e K v refl (λ _. refl)) (same (λ u. u.session) e K v refl (λ _. refl)) (same (λ u. u.sessions) e K v refl (λ _. refl)) (same (λ u. u.drawn) e K v refl (λ _. refl)),
        ),
        ((K, refl, sym now, seen), subst (λ i. Below i v) (sym now) below, order),
      )
    where
      same : {A : Type 0} (f : ChairView P Q R E → A) (e : Option E) (K : Known P Q R E) (v : ChairView P Q R E) → f (after_look None K v) ≡ f v → ((d : E) → f (after_look (Some d) K v) ≡ f v) → f (after_look e K v) ≡ f v
      same f None K v a b = a
      same f (Some d) K v a b = b d

      same_seen : (e : Option E) (K : Known P Q R E) (v : ChairView P Q R E) → (after_look e K v).seen ≡ newest K
      same_seen None K v = refl
      same_seen (Some d) K v = refl

      reads : (e : Option E) (K : Known P Q R E) (v : ChairView P Q R E) → Sees μ v K → ((d : E) → e ≡ Some d → MayRead μ d v) → Each (λ r. μ.ok r.1 × Rattle.mq_turns.specs.Meaning.Grows r.1 K × μ.fits r.0 r.1) v.read
          → Each (λ r. μ.ok r.1 × Rattle.mq_turns.specs.Meaning.Grows r.1 K × μ.fits r.0 r.1) (after_look e K v).read
      reads None K v seen may old = old
      reads (Some d) K v seen may old = ((seen.ok, grows_now K, may d refl K seen), old)

  -- the next number is drawn, with the entry
  pub draws : AreLaws μ → (deep id : ℕ) (me : Sat M P Q R E) (word : ℕ) (e : E) → word ≡ deep → deep ≡ slots o → μ.queue e < length o.sides → Covers μ e me.0 → Follows μ e me.0 → length me.0.drawn < me.0.parts * allotment chairs
      → Allows Rule deep id me word (λ n. (n + 1) % 2 ^ 64) (drew_one μ e (step deep word 1 0 none) me)
  draws laws deep id me word e is wide side may follows room s rk len at fits =
      let K : Known P Q R E = rk.0 in
      let L : Known P Q R E = drawn e K in
      let r = rk.2 in
      let n = rk.3 in
      let v : ChairView P Q R E = me.0 in
      let w : ChairView P Q R E = after_draw μ e K v in
      let live : 0 < v.parts = some_parts v.parts (length v.drawn) room in
      let seen = sees K s id v rk.1 r n rk.4 rk.5 at live in
      let at_end : word ≡ length s.homes = is ∙ sym len in
      let now : get_or s.words word 0 ≡ newest K = ap (λ i. get_or s.words i 0) at_end ∙ n.counter in
      let few = room_left μ chairs K s id v n at room in
      let words_wide = r.wide in
      let d = n.each_chair id v at in
      let small : newest K + 1 < 2 ^ 64 = omega arith in
      let wrapped : (get_or s.words word 0 + 1) % 2 ^ 64 ≡ suc (newest K) = ap (λ i. (i + 1) % 2 ^ 64) now ∙ (mod-eq_of_lt small ∙ omega arith) in
      let words' : List ℕ = set s.words word (suc (newest K)) in
      let touched : ℕ → Bool = λ k. μ.touches K.log e (turn_at K.opening k) in
      let ok : μ.ok L = laws.ok_drawn e K r.ok (may.may K seen few) in
      let opening : turn_at K.opening ≡ turn_at o = ap turn_at rk.1 in
      let change : Change μ (turn_at K.opening) (length s.homes) touched K L v = record {
        ok = ok;
        stays = λ k f. stays_drawn μ.touches μ.lies (turn_at K.opening k) e K f;
        mine = λ k lt t.
            let here : k < slots K.opening = subst (λ p. k < slots p) (sym rk.1) (omega arith) in
            let z = may.held K seen (turn_at K.opening k) (turn_of_slot K.opening k here) t in
            subst (λ j. 0 < times j v.held) (slot_of_turn K.opening k here) z;
      } in
      let change' : Change μ (turn_at o) (length s.homes) touched K L v = subst (λ (f : ℕ → Turn). Change μ f (length s.homes) touched K L v) opening change in (
        w,
        keeps,
        tt,
        subst (λ (i : ℕ). Rule record { words = set s.words word i; homes = s.homes; views = set s.views id w }) (sym wrapped) (
          L,
          rk.1,
          turns_change μ (turn_at o) laws touched K L s id v w words' r at change' refl refl refl (length-set s.words word (suc (newest K))) (λ k l. get_or-set_other s.words word k (suc (newest K)) 0 (λ q. omega arith)),
          numbers_draw μ chairs e K s id v w words' n at follows room (let z = get_or-set_same s.words word (suc (newest K)) 0 (omega arith) in ap (λ i. get_or words' i 0) (sym at_end) ∙ z) refl refl refl refl refl refl,
          words_stay μ K L s id v w words' s.homes rk.4 at (length-set s.words word (suc (newest K))) refl (λ j far. get_or-set_other s.words word j (suc (newest K)) 0 (λ q. omega arith)) refl refl (grows_drawn e K) (marked_drawn μ e K rk.4.marked (subst (λ p. μ.queue e < length p.sides) (sym rk.1) side) (may.mark K seen)) refl refl refl,
          sessions_draw μ e K s id v w words' rk.5 at live follows refl refl refl refl,
        ),
        ((K, refl, sym now, seen), subst (λ i. Below i v) (sym now) (below_newest μ (allotment chairs) K v d), omega arith, λ one. order_draw μ e K v follows (below_newest μ (allotment chairs) K v d).1 d.read (d.order one)),
      )
    where
      some_parts : (parts drew : ℕ) → drew < parts * allotment chairs → 0 < parts
      some_parts zero drew lt = absurd (omega arith)
      some_parts (suc n) drew lt = omega arith

  pub draws_told : AreLaws μ → (deep id : ℕ) (me : Sat M P Q R E) (word : ℕ) (e : E) (t : Option E) → word ≡ deep → deep ≡ slots o → μ.queue e < length o.sides → Covers μ e me.0 → Follows μ e me.0 → length me.0.drawn < me.0.parts * allotment chairs → t ≡ Some e
      → Allows Rule deep id me word (λ n. (n + 1) % 2 ^ 64) (λ n me'. (d : E) → t ≡ Some d → drew_one μ d (step deep word 1 0 none) me n me')
  draws_told laws deep id me word e t is wide side may follows room told s r len at fits = let x = draws laws deep id me word e is wide side may follows room s r len at fits in
      (x.0, x.1, x.2, x.3, λ d told'. told_one t e d (λ a. drew_one μ a (step deep word 1 0 none) me (get_or s.words word 0) (x.0, carried_after me.1 x.1)) told told' x.4)

  pub looks_nothing : (deep id : ℕ) (me : Sat M P Q R E) (word : ℕ) → word ≡ deep → 0 < me.0.parts → Allows Rule deep id me word (λ n. n) (looked μ None (step deep word 0 0 none) me)
  looks_nothing deep id me word is live = looks deep id me word None is live (λ d e. absurd (none_told None d refl e))

  -- the same, where the entry is seen through a reference
  pub looks_told : {X : Type 0} (deep id : ℕ) (me : Sat M P Q R E) (word : ℕ) (f : X → E) (x : Option X) (t : Option E) → word ≡ deep → 0 < me.0.parts → IfSome x (λ a. MayRead μ (f a) me.0 × Follows μ (f a) me.0) → t ≡ option_map f x
      → Allows Rule deep id me word (λ n. n) (looked μ t (step deep word 0 0 none) me)
  looks_told deep id me word f None t is live may told = looks deep id me word t is live (λ d e. absurd (none_told t d told e))
  looks_told deep id me word f (Some a) t is live may told = looks deep id me word t is live (λ d e. told_one t (f a) d (λ b. MayRead μ b me.0 × Follows μ b me.0) told e may)

  -- what is said by slots, said by turns
  pub stands_turn : (K : Known P Q R E) (v : ChairView P Q R E) (t : Turn) (k : ℕ) (x : Item M P Q R E) → v.opening ≡ Some o → Sees μ v K → IsTurn o t → k ≡ slot_of o t → Stands μ (turn_at K.opening k) K x → Stands μ t K x
  stands_turn K v t k x is seen mine slot stands =
      let same : K.opening ≡ o = some_same (sym seen.opening ∙ is) in
      let turn : turn_at K.opening k ≡ t = (λ i. turn_at (same i) (slot i)) ∙ turn_at_slot o t mine in
      subst (λ u. Stands μ u K x) turn stands
    where
      some_same : {A : Type 0} {a b : A} → Some a ≡ Some b → a ≡ b
      some_same e = cc
