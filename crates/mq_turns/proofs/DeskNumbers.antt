-- What each kind of step does to the numbers.
use Rattle.std.proofs.Common.{◌≡◌, ◌≢◌, ℕ, suc, ◌+◌, ◌*◌, ◌^◌, ◌<◌, ◌≤◌, List, [], ◌∷◌, ◌++◌, length, get_or, set, sym, refl, ap, ◌∙◌, subst, ⊎_elim, inl, arith, Some}
use Rattle.std.proofs.Math.Nat.{mul-div-le}
use mathlib.Core.Logic.{dite}
use mathlib.Core.Option.{some}
use native.Mathlib.Decide.{ℕ_discrete}
use lib.ListN.{get_elem?}
use Rattle.atomic_table.proofs.Lists.{at_set, at_snoc, set_else}
use Rattle.mq_turns.specs.Meaning.{Meaning, Grows, newest, drawn, HasNumberAt}
use Rattle.mq_blocks.specs.Totals.{total}
use Rattle.mq_turns.specs.Lists.{Each, tick, times}
use Rattle.mq_turns.specs.Desk.{Now, Drawer, Numbers, allotment, Below, Follows, IsInOrder, last_of}
use Rattle.mq_turns.specs.declared.rule.Known.{Known}
use Rattle.mq_turns.specs.declared.rule.ChairView.{ChairView}
use Rattle.mq_blocks.proofs.Totals.{total_set, total_same, total_le, total_gap, total_scaled, total_append, total_pair, total_zero}
use Rattle.mq_turns.proofs.Lists.{each_map, hit, miss, times_none}
use Rattle.mq_turns.proofs.Meaning.{at_bounds, grows_on, grows_drawn, newest_grows, at_grows}
use Rattle.mq_turns.proofs.DeskOrder.{order_same, order_draw}
use Rattle.mq_turns.proofs.DeskTurns.{Homes, chairs_stay}

-- where a chair has room, fewer are drawn than all chairs may draw
drawn_count : {P Q R E : Type 0} (most : ℕ) (vs : List (ChairView P Q R E)) (id : ℕ) (v : ChairView P Q R E) → get_elem? vs id ≡ some v → ((j : ℕ) (u : ChairView P Q R E) → get_elem? vs j ≡ some u → length u.drawn ≤ u.parts * most) → length v.drawn < v.parts * most
    → total (λ u. length u.drawn) vs < total (λ u. u.parts) vs * most
drawn_count {P} {Q} {R} {E} most vs id v at few room =
    let gap = total_gap (λ u. length u.drawn) (λ u. u.parts * most) vs id v at few in
    let scaled = total_scaled (λ (u : ChairView P Q R E). u.parts) most vs in omega arith

pub last_of_le : {E : Type 0} (n m : ℕ) (ds : List (ℕ × E)) → n ≤ m → Each (λ d. d.0 ≤ m) ds → last_of n ds ≤ m
last_of_le n m [] lt e = lt
last_of_le n m (d ∷ ds) lt e = let ih = last_of_le n m ds lt e.1 in let x = e.0 in omega arith

pub last_of_bounds : {E : Type 0} (n m : ℕ) (ds : List (ℕ × E)) → last_of n ds ≤ m → (n ≤ m) × Each (λ d. d.0 ≤ m) ds
last_of_bounds n m [] lt = (lt, tt)
last_of_bounds n m (d ∷ ds) lt = let ih = last_of_bounds n m ds (omega arith) in (ih.0, (omega arith, ih.1))

module _ {P Q R E : Type 0} (μ : Meaning P Q R E) where
  abbrev pub Drawns : Known P Q R E → List (ℕ × E) → Type 0
  Drawns K ds = Each (λ d. HasNumberAt K.opening.base K.log d.0 d.1) ds

  abbrev pub Reads : Known P Q R E → List (E × Known P Q R E) → Type 0
  Reads K rs = Each (λ r. μ.ok r.1 × Grows r.1 K × μ.fits r.0 r.1) rs

  pub drawns_below : (K : Known P Q R E) (ds : List (ℕ × E)) → Each (λ d. HasNumberAt K.opening.base K.log d.0 d.1) ds → Each (λ d. d.0 ≤ newest K) ds
  drawns_below K ds = each_map _ _ (λ d a. (at_bounds K.opening.base K.log d.0 d.1 a).1) ds

  pub below_newest : (most : ℕ) (K : Known P Q R E) (v : ChairView P Q R E) → Drawer μ most K v → Below (newest K) v
  below_newest most K v d = (d.seen, drawns_below K v.drawn d.drew)

  pub drawer_grows : (most : ℕ) (K L : Known P Q R E) (v : ChairView P Q R E) → Grows K L → Drawer μ most K v → Drawer μ most L v
  drawer_grows most K L v g d = record {
    few = d.few;
    opening = λ n. d.opening n ∙ ap Some (sym g.opening);
    seen = let a = newest_grows K L g in let b = d.seen in omega arith;
    drew = each_map _ _ (λ x a. at_grows K L x.0 x.1 g a) v.drawn d.drew;
    read = each_map _ _ (λ r a. (a.0, grows_on r.1 K L a.1 g, a.2)) v.read d.read;
    order = d.order;
  }

module _ {M P Q R E : Type 0} (μ : Meaning P Q R E) where
  -- a step that is not about numbers
  pub numbers_stay : (chairs : ℕ) (K : Known P Q R E) (s : Now M P Q R E) (id : ℕ) (v w : ChairView P Q R E) (words' : List ℕ) (homes' : Homes M P Q R E) → Numbers μ chairs K s → get_elem? s.views id ≡ some v
      → length homes' ≡ length s.homes → get_or words' (length s.homes) 0 ≡ get_or s.words (length s.homes) 0
      → w.parts ≡ v.parts → w.opening ≡ v.opening → w.session ≡ v.session → w.seen ≡ v.seen → w.drawn ≡ v.drawn → w.read ≡ v.read
      → Numbers μ chairs K record { words = words'; homes = homes'; views = set s.views id w }
  numbers_stay chairs K s id v w words' homes' r at deep counter parts opening session seen drew read =
      let d = r.each_chair id v at in record {
        counter = ap (λ n. get_or words' n 0) deep ∙ (counter ∙ r.counter);
        whole = total_same (λ u. u.parts) s.views id v w at parts ∙ r.whole;
        counted = total_same (λ u. length u.drawn) s.views id v w at (ap length drew) ∙ r.counted;
        once = λ n lo hi. total_same (λ u. times n u.drawn) s.views id v w at (ap (times n) drew) ∙ r.once n lo hi;
        bounds = r.bounds;
        each_chair = chairs_stay (Drawer μ (allotment chairs) K) s.views id w
            record {
              few = let a : length w.drawn ≡ length v.drawn = ap length drew in let b : w.parts * allotment chairs ≡ v.parts * allotment chairs = ap (λ n. n * allotment chairs) parts in let c = d.few in omega arith;
              opening = λ n. opening ∙ d.opening (λ e. n (parts ∙ e));
              seen = let a = d.seen in omega arith;
              drew = subst (Drawns μ K) (sym drew) d.drew;
              read = subst (Reads μ K) (sym read) d.read;
              order = λ one. order_same μ v w session drew read (d.order (sym parts ∙ one));
            }
            (λ j u ne o. r.each_chair j u o);
      }

  -- the counter is read
  pub numbers_look : (chairs : ℕ) (K : Known P Q R E) (s : Now M P Q R E) (id : ℕ) (v w : ChairView P Q R E) (words' : List ℕ) → Numbers μ chairs K s → get_elem? s.views id ≡ some v
      → get_or words' (length s.homes) 0 ≡ get_or s.words (length s.homes) 0
      → w.parts ≡ v.parts → w.opening ≡ v.opening → w.seen ≡ newest K → w.drawn ≡ v.drawn → Each (λ r. μ.ok r.1 × Grows r.1 K × μ.fits r.0 r.1) w.read → (v.parts ≡ 1 → IsInOrder μ w)
      → Numbers μ chairs K record { words = words'; homes = s.homes; views = set s.views id w }
  numbers_look chairs K s id v w words' r at counter parts opening seen drew read order =
      let d = r.each_chair id v at in record {
        counter = counter ∙ r.counter;
        whole = total_same (λ u. u.parts) s.views id v w at parts ∙ r.whole;
        counted = total_same (λ u. length u.drawn) s.views id v w at (ap length drew) ∙ r.counted;
        once = λ n lo hi. total_same (λ u. times n u.drawn) s.views id v w at (ap (times n) drew) ∙ r.once n lo hi;
        bounds = r.bounds;
        each_chair = chairs_stay (Drawer μ (allotment chairs) K) s.views id w
            record {
              few = let a : length w.drawn ≡ length v.drawn = ap length drew in let b : w.parts * allotment chairs ≡ v.parts * allotment chairs = ap (λ n. n * allotment chairs) parts in let c = d.few in omega arith;
              opening = λ n. opening ∙ d.opening (λ e. n (parts ∙ e));
              seen = omega arith;
              drew = subst (Drawns μ K) (sym drew) d.drew;
              read = read;
              order = λ one. order (sym parts ∙ one);
            }
            (λ j u ne o. r.each_chair j u o);
      }

  -- there are fewer numbers than all chairs may draw
  pub room_left : (chairs : ℕ) (K : Known P Q R E) (s : Now M P Q R E) (id : ℕ) (v : ChairView P Q R E) → Numbers μ chairs K s → get_elem? s.views id ≡ some v → length v.drawn < v.parts * allotment chairs → newest K < 2 ^ 63
  room_left chairs K s id v r at room =
      let a = drawn_count (allotment chairs) s.views id v at (λ j u o. (r.each_chair j u o).few) room in
      let b : total (λ u. u.parts) s.views * allotment chairs ≡ chairs * allotment chairs = ap (λ n. n * allotment chairs) r.whole in
      let c : chairs * allotment chairs ≤ 2 ^ 62 = mul-div-le (2 ^ 62) chairs in
      let d = r.counted in let e = r.bounds.0 in omega arith

  -- no number is above 2^63
  pub newest_few : (chairs : ℕ) (K : Known P Q R E) (s : Now M P Q R E) → Numbers μ chairs K s → newest K ≤ 2 ^ 63
  newest_few chairs K s r =
      let a = total_le (λ u. length u.drawn) (λ u. u.parts * allotment chairs) s.views (λ j u o. (r.each_chair j u o).few) in
      let scaled = total_scaled (λ (u : ChairView P Q R E). u.parts) (allotment chairs) s.views in
      let b : total (λ u. u.parts) s.views * allotment chairs ≡ chairs * allotment chairs = ap (λ n. n * allotment chairs) r.whole in
      let c : chairs * allotment chairs ≤ 2 ^ 62 = mul-div-le (2 ^ 62) chairs in
      let d = r.counted in let e = r.bounds.0 in omega arith

  -- a step by which L is known, and no number was drawn
  pub numbers_change : (chairs : ℕ) (K L : Known P Q R E) (s : Now M P Q R E) (id : ℕ) (v w : ChairView P Q R E) (words' : List ℕ) → Numbers μ chairs K s → get_elem? s.views id ≡ some v → Grows K L → L.log ≡ K.log
      → get_or words' (length s.homes) 0 ≡ get_or s.words (length s.homes) 0
      → w.parts ≡ v.parts → w.opening ≡ v.opening → w.session ≡ v.session → w.seen ≡ v.seen → w.drawn ≡ v.drawn → w.read ≡ v.read
      → Numbers μ chairs L record { words = words'; homes = s.homes; views = set s.views id w }
  numbers_change chairs K L s id v w words' r at g same counter parts opening session seen drew read =
      let n = numbers_stay chairs K s id v w words' s.homes r at refl counter parts opening session seen drew read in
      let len : length L.log ≡ length K.log = ap length same in
      let base : L.opening.base ≡ K.opening.base = ap (λ o. o.base) g.opening in
      record {
        counter = let a = n.counter in omega arith;
        whole = n.whole;
        counted = let a = n.counted in omega arith;
        once = λ k lo hi. n.once k (omega arith) (omega arith);
        bounds = (let a = n.bounds.0 in omega arith, n.bounds.1);
        each_chair = λ j u o. drawer_grows μ (allotment chairs) K L u g (n.each_chair j u o);
      }

  -- a number is drawn
  pub numbers_draw : (chairs : ℕ) (e : E) (K : Known P Q R E) (s : Now M P Q R E) (id : ℕ) (v w : ChairView P Q R E) (words' : List ℕ) → Numbers μ chairs K s → get_elem? s.views id ≡ some v
      → Follows μ e v → length v.drawn < v.parts * allotment chairs → get_or words' (length s.homes) 0 ≡ suc (newest K)
      → w.parts ≡ v.parts → w.opening ≡ v.opening → w.session ≡ v.session → w.seen ≡ suc (newest K) → w.drawn ≡ (suc (newest K), e) ∷ v.drawn → w.read ≡ v.read
      → Numbers μ chairs (drawn e K) record { words = words'; homes = s.homes; views = set s.views id w }
  numbers_draw chairs e K s id v w words' r at follows room counter parts opening session seen drew read =
      let L : Known P Q R E = drawn e K in
      let d = r.each_chair id v at in
      let now = drawer_grows μ (allotment chairs) K L v (grows_drawn e K) d in
      let n : ℕ = newest K in
      let longer : length w.drawn ≡ suc (length v.drawn) = ap length drew in
      record {
        counter = counter ∙ omega arith;
        whole = total_same (λ u. u.parts) s.views id v w at parts ∙ r.whole;
        counted = let z = total_set (λ u. length u.drawn) s.views id v w at in let y = r.counted in omega arith;
        once = λ k lo hi.
            let z = total_set (λ u. times k u.drawn) s.views id v w at in
            let y : times k w.drawn ≡ tick (suc n) k + times k v.drawn = ap (times k) drew in
            dite (ℕ_discrete k (suc n))
            (λ q. let none_yet : total (λ u. times k u.drawn) s.views ≡ 0 = total_zero (λ u. times k u.drawn) s.views (λ j u o. times_none k n u.drawn (drawns_below μ K u.drawn (r.each_chair j u o).drew) (omega arith)) in
            let t = hit (suc n) k (sym q) in omega arith)
            (λ q. let t = miss (suc n) k (λ x. q (sym x)) in let one = r.once k lo (omega arith) in omega arith);
        bounds = r.bounds;
        each_chair = chairs_stay (Drawer μ (allotment chairs) L) s.views id w
            record {
              few = let b : w.parts * allotment chairs ≡ v.parts * allotment chairs = ap (λ m. m * allotment chairs) parts in omega arith;
              opening = λ x. opening ∙ d.opening (λ y. x (parts ∙ y));
              seen = omega arith;
              drew = subst (Drawns μ L) (sym drew) (inl (refl, refl), now.drew);
              read = subst (Reads μ L) (sym read) now.read;
              order = λ one. order_same μ (record v { drawn = (suc n, e) ∷ v.drawn }) w session drew read (order_draw μ e K v follows (drawns_below μ K v.drawn d.drew) d.read (d.order (sym parts ∙ one)));
            }
            (λ j u ne o. drawer_grows μ (allotment chairs) K L u (grows_drawn e K) (r.each_chair j u o));
      }

  -- a view is cut in two
  pub numbers_split : (chairs : ℕ) (K : Known P Q R E) (s : Now M P Q R E) (id : ℕ) (v w o : ChairView P Q R E) → Numbers μ chairs K s → get_elem? s.views id ≡ some v
      → w.parts + o.parts ≡ v.parts → w.drawn ≡ v.drawn → o.drawn ≡ [] → (Drawer μ (allotment chairs) K v → Drawer μ (allotment chairs) K w × Drawer μ (allotment chairs) K o)
      → Numbers μ chairs K record { words = s.words; homes = s.homes; views = set s.views id w ++ o ∷ [] }
  numbers_split chairs K s id v w o r at parts drew none_drawn both =
      let vs : List (ChairView P Q R E) = set s.views id w in
      let c = both (r.each_chair id v at) in
      let more : (f : ChairView P Q R E → ℕ) → f w + f o ≡ f v → total f (vs ++ o ∷ []) ≡ total f s.views = λ f h. (let x = total_append f vs (o ∷ []) in let y = total_set f s.views id v w at in omega arith) in
      record {
        counter = r.counter;
        whole = more (λ u. u.parts) parts ∙ r.whole;
        counted = more (λ u. length u.drawn) (let a : length w.drawn ≡ length v.drawn = ap length drew in let b : length o.drawn ≡ 0 = ap length none_drawn in omega arith) ∙ r.counted;
        once = λ k lo hi. more (λ u. times k u.drawn) (let a : times k w.drawn ≡ times k v.drawn = ap (times k) drew in let b : times k o.drawn ≡ 0 = ap (times k) none_drawn in omega arith) ∙ r.once k lo hi;
        bounds = r.bounds;
        each_chair = λ j u e. ⊎_elim
            (λ (x : get_elem? vs j ≡ some u). ⊎_elim (λ (t : (j ≡ id) × (w ≡ u)). subst (Drawer μ (allotment chairs) K) t.1 c.0)
            (λ (t : (j ≢ id) × (get_elem? s.views j ≡ some u)). r.each_chair j u t.1) (at_set s.views id j w u x))
            (λ (t : o ≡ u). subst (Drawer μ (allotment chairs) K) t c.1) (at_snoc vs o u j e);
      }

  -- a view takes in another's
  pub numbers_join : (chairs : ℕ) (K : Known P Q R E) (s : Now M P Q R E) (id : ℕ) (v : ChairView P Q R E) (other : ℕ) (w b z : ChairView P Q R E) → Numbers μ chairs K s → get_elem? s.views id ≡ some v
      → other ≢ id → get_elem? (set s.views id b) other ≡ some w → b.parts + z.parts ≡ v.parts + w.parts → length b.drawn ≡ length v.drawn + length w.drawn → ((k : ℕ) → times k b.drawn ≡ times k v.drawn + times k w.drawn) → z.drawn ≡ []
      → (Drawer μ (allotment chairs) K v → Drawer μ (allotment chairs) K w → Drawer μ (allotment chairs) K b × Drawer μ (allotment chairs) K z)
      → Numbers μ chairs K record { words = s.words; homes = s.homes; views = set (set s.views id b) other z }
  numbers_join chairs K s id v other w b z r at apart there parts drew each_drawn none_drawn both =
      let vs : List (ChairView P Q R E) = set (set s.views id b) other z in
      let was : get_elem? s.views other ≡ some w = sym (set_else s.views id other b apart) ∙ there in
      let c = both (r.each_chair id v at) (r.each_chair other w was) in
      let same : (f : ChairView P Q R E → ℕ) → f b + f z ≡ f v + f w → total f vs ≡ total f s.views = λ f h. total_pair f s.views id other v b w z at there h in
      record {
        counter = r.counter;
        whole = same (λ u. u.parts) parts ∙ r.whole;
        counted = same (λ u. length u.drawn) (let a : length z.drawn ≡ 0 = ap length none_drawn in omega arith) ∙ r.counted;
        once = λ k lo hi. same (λ u. times k u.drawn) (let a : times k z.drawn ≡ 0 = ap (times k) none_drawn in let d = each_drawn k in omega arith) ∙ r.once k lo hi;
        bounds = r.bounds;
        each_chair = λ j u e. ⊎_elim
            (λ (t : (j ≡ other) × (z ≡ u)). subst (Drawer μ (allotment chairs) K) t.1 c.1)
            (λ (x : (j ≢ other) × (get_elem? (set s.views id b) j ≡ some u)). ⊎_elim
            (λ (t : (j ≡ id) × (b ≡ u)). subst (Drawer μ (allotment chairs) K) t.1 c.0)
            (λ (t : (j ≢ id) × (get_elem? s.views j ≡ some u)). r.each_chair j u t.1) (at_set s.views id j b u x.1))
            (at_set (set s.views id b) other j z u e);
      }
