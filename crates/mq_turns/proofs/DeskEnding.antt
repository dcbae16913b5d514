-- The end of a desk: what one view knows that stands for all chairs.
use Rattle.std.proofs.Common.{◌≡◌, ◌≢◌, ℕ, zero, suc, ◌+◌, ◌*◌, ◌<◌, ◌≤◌, Bool, List, [], ◌∷◌, ◌++◌, map, length, get_or, sym, refl, ap, ◌∙◌, subst, arith, Option, Some, None, length-append, append-nil, append_assoc}
use Rattle.std.proofs.lemmas.List.{map-append}
use Rattle.std.proofs.lemmas.Option.{slice_get_within}
use mathlib.Core.Logic.{dite}
use mathlib.Core.Option.{some, some-ne-none, some-injective}
use native.Mathlib.Decide.{ℕ_discrete}
use lib.ListN.{get_elem?}
use Rattle.std.specs.Prelude.{All}
use Rattle.atomic_table.specs.Table.{Final, Seen}
use Rattle.mq_turns.specs.Meaning.{Meaning, Grows, newest, HasNumberAt}
use Rattle.mq_blocks.specs.Totals.{total}
use Rattle.mq_turns.specs.Lists.{Each, tally, times}
use Rattle.mq_turns.specs.Marks.{Marked, Reader}
use Rattle.mq_turns.specs.declared.rule.Charge.{Charge}
use Rattle.mq_turns.specs.Desk.{slots, turn_at, holders, allotment, Drawer, Ruled, Stands, drawn_of, read_of, charged_of, IsInOrder}
use Rattle.mq_turns.specs.Chairs.{DeskEnded}
use Rattle.mq_turns.specs.Closing.{HasPages, HasSides, HasRoot, ArePages, AreSides, IsRoot}
use Rattle.mq_turns.specs.declared.rule.Opening.{Opening}
use Rattle.mq_turns.specs.declared.rule.Known.{Known}
use Rattle.mq_turns.specs.declared.rule.ChairView.{ChairView}
use Rattle.mq_turns.specs.declared.turn.Turn.{Turn}
use Rattle.mq_turns.specs.declared.turn.Turn.TheVariants.{Page, Side, Root}
use Rattle.mq_turns.specs.declared.turn.Item.{Item}
use Rattle.mq_turns.specs.declared.turn.Item.TheVariants as item
use Rattle.mq_blocks.proofs.Totals.{total_two, total_zero, total_only, total_append}
use Rattle.mq_turns.proofs.Lists.{each_append, each_map}
use Rattle.mq_turns.proofs.MarksReadings.{charges_in}
use Rattle.mq_turns.proofs.DeskSlots.{page_at, side_at, root_at}

-- ---- lists of chairs

pub drawn_last : {P Q R E : Type 0} (vs : List (ChairView P Q R E)) (v : ChairView P Q R E) → drawn_of (vs ++ v ∷ []) ≡ v.drawn ++ drawn_of vs
drawn_last [] v = sym (append-nil v.drawn)
drawn_last (u ∷ rest) v = ap (λ l. l ++ u.drawn) (drawn_last rest v) ∙ append_assoc v.drawn (drawn_of rest) u.drawn

pub read_last : {P Q R E : Type 0} (vs : List (ChairView P Q R E)) (v : ChairView P Q R E) → read_of (vs ++ v ∷ []) ≡ v.read ++ read_of vs
read_last [] v = sym (append-nil v.read)
read_last (u ∷ rest) v = ap (λ l. l ++ u.read) (read_last rest v) ∙ append_assoc v.read (read_of rest) u.read

pub charged_last : {P Q R E : Type 0} (vs : List (ChairView P Q R E)) (v : ChairView P Q R E) → charged_of (vs ++ v ∷ []) ≡ v.reading.charged ++ charged_of vs
charged_last [] v = sym (append-nil v.reading.charged)
charged_last (u ∷ rest) v = ap (λ l. l ++ u.reading.charged) (charged_last rest v) ∙ append_assoc v.reading.charged (charged_of rest) u.reading.charged

idx_front : {X : Type 0} (xs ys : List X) (k : ℕ) (d : X) → k < length xs → get_or (xs ++ ys) k d ≡ get_or xs k d
idx_front [] ys k d lt = absurd (omega arith)
idx_front (x ∷ xs) ys zero d lt = refl
idx_front (x ∷ xs) ys (suc k) d lt = idx_front xs ys k d (omega arith)

idx_last : {X : Type 0} (xs : List X) (x d : X) → get_or (xs ++ x ∷ []) (length xs) d ≡ x
idx_last [] x d = refl
idx_last (y ∷ ys) x d = idx_last ys x d

pub all_last : {X : Type 0} (F : X → Type 0) (ys xs : List X) (x : X) → ys ≡ xs ++ x ∷ [] → All F ys → F x × All F xs
all_last F ys xs x e h = let a : All F (xs ++ x ∷ []) = subst (All F) e h in let len = length-append xs (x ∷ []) in
    (subst F (idx_last xs x x) (a (length xs) x (omega arith)), (λ k d lt. subst F (idx_front xs (x ∷ []) k d lt) (a k d (omega arith))))

module _ {X P Q R E : Type 0} (f : X → ChairView P Q R E) where
  map_last : (ys xs : List X) (x : X) → ys ≡ xs ++ x ∷ [] → map f ys ≡ map f xs ++ f x ∷ []
  map_last ys xs x e = ap (map f) e ∙ map-append f xs (x ∷ [])

  pub parts_last : (ys xs : List X) (x : X) → ys ≡ xs ++ x ∷ [] → total (λ v. v.parts) (map f ys) ≡ total (λ v. v.parts) (map f xs) + (f x).parts
  parts_last ys xs x e = ap (total (λ v. v.parts)) (map_last ys xs x e) ∙ (total_append (λ v. v.parts) (map f xs) (f x ∷ []) ∙ omega arith)

  pub drawn_moves : (ys xs : List X) (x : X) (l : List (ℕ × E)) → ys ≡ xs ++ x ∷ [] → (l ++ (f x).drawn) ++ drawn_of (map f xs) ≡ l ++ drawn_of (map f ys)
  drawn_moves ys xs x l e = append_assoc l (f x).drawn (drawn_of (map f xs)) ∙ ap (λ z. l ++ z) (sym (ap drawn_of (map_last ys xs x e) ∙ drawn_last (map f xs) (f x)))

  pub read_moves : (ys xs : List X) (x : X) (l : List (E × Known P Q R E)) → ys ≡ xs ++ x ∷ [] → (l ++ (f x).read) ++ read_of (map f xs) ≡ l ++ read_of (map f ys)
  read_moves ys xs x l e = append_assoc l (f x).read (read_of (map f xs)) ∙ ap (λ z. l ++ z) (sym (ap read_of (map_last ys xs x e) ∙ read_last (map f xs) (f x)))

  pub charged_moves : (ys xs : List X) (x : X) (l : List Charge) → ys ≡ xs ++ x ∷ [] → (l ++ (f x).reading.charged) ++ charged_of (map f xs) ≡ l ++ charged_of (map f ys)
  charged_moves ys xs x l e = append_assoc l (f x).reading.charged (charged_of (map f xs)) ∙ ap (λ z. l ++ z) (sym (ap charged_of (map_last ys xs x e) ∙ charged_last (map f xs) (f x)))

  -- what holds of each view but the last, and of the last
  pub each_last : (F : ChairView P Q R E → Type 0) (ys xs : List X) (x : X) → ys ≡ xs ++ x ∷ [] → F (f x) → Each F (map f xs) → Each F (map f ys)
  each_last F ys xs x e last all = subst (Each F) (sym (map_last ys xs x e)) (each_append F (map f xs) (f x ∷ []) all (last, tt))

  pub parts_of : ((x : X) → (f x).parts ≡ 1) → (xs : List X) → total (λ v. v.parts) (map f xs) ≡ length xs
  parts_of h [] = refl
  parts_of h (x ∷ xs) = let a = h x in let ih = parts_of h xs in omega arith

-- ---- what lies at home

get_at : (l : List ℕ) (i a : ℕ) → get_elem? l i ≡ some a → get_or l i 0 ≡ a
get_at [] i a e = absurd (some-ne-none a (sym e))
get_at (x ∷ xs) zero a e = some-injective x a e
get_at (x ∷ xs) (suc i) a e = get_at xs i a e

pub not_none : {A : Type 0} (l : List (Option A)) (k : ℕ) (x : A) (o : Option A) → get_elem? l k ≡ some (Some x) → get_elem? l k ≡ some o → o ≡ None → ⊥
not_none l k x o e f n = let p : Some x ≡ o = some-injective _ _ (sym e ∙ f) in cc

pub found : {A : Type 0} (l : List (Option A)) (k : ℕ) (x : A) (o : Option A) (y : A) → get_elem? l k ≡ some (Some x) → get_elem? l k ≡ some o → o ≡ Some y → y ≡ x
found l k x o y e f n = let p : Some x ≡ o = some-injective _ _ (sym e ∙ f) in cc

module _ {M P Q R E : Type 0} (μ : Meaning P Q R E) (o : Opening P Q R) (chairs : ℕ) where
  -- where one view stands for all chairs and holds nothing, every value is at home and is what the history
  -- says
  pub record Home (v : ChairView P Q R E) (ws : List ℕ) (xs : List (Option (Item M P Q R E))) : Type 0 where
    pub known : Known P Q R E
    pub opening : known.opening ≡ o
    pub ok : μ.ok known
    pub counter : get_or ws (length xs) 0 ≡ newest known
    pub word : get_or ws (suc (length xs + length o.sides)) 0 ≡ known.word
    pub home : (k : ℕ) → k < length xs → (x : Item M P Q R E) × (get_elem? xs k ≡ some (Some x)) × Stands μ (turn_at o k) known x
    pub once : (n : ℕ) → known.opening.base < n → n ≤ newest known → times n v.drawn ≡ 1
    pub drawer : Drawer μ (allotment chairs) known v
    pub marked : Marked μ known
    pub reader : Reader μ known v.reading
    pub charges : (f : Charge → Bool) → tally f v.reading.charged ≡ tally f known.charges

  pub ends : (id : ℕ) (v : ChairView P Q R E) (ws : List ℕ) (xs : List (Option (Item M P Q R E))) → Final (Seen (Ruled μ o chairs) id v) ws xs → v.parts ≡ chairs → v.held ≡ [] → Home v ws xs
  ends id v ws xs (s, seen, words, deep, home) all none_held =
      let rk = seen.0 in
      let r = rk.2 in
      let n = rk.3 in
      let at = seen.1 in
      let sides : length rk.0.opening.sides ≡ length o.sides = ap (λ p. length p.sides) rk.1 in
      let none_else : (j : ℕ) (u : ChairView P Q R E) → j ≢ id → get_elem? s.views j ≡ some u → u.parts ≡ 0 = λ j u ne t. (let two = total_two (λ x. x.parts) s.views id j v u at t ne in let w = n.whole in omega arith) in
      let all_free : (k : ℕ) → holders k s.views ≡ 0 = λ k. total_zero (λ u. times k u.held) s.views (λ j u t. dite (ℕ_discrete j id)
      (λ e. let same : v ≡ u = some-injective v u (sym at ∙ (ap (get_elem? s.views) (sym e) ∙ t)) in ap (λ (z : ChairView P Q R E). times k z.held) (sym same) ∙ ap (times k) none_held)
      (λ ne. ap (times k) ((r.each_chair j u t).idle (none_else j u ne t)))) in record {
        known = rk.0;
        opening = rk.1;
        ok = r.ok;
        counter = (λ i. get_or (sym words i) (sym deep i) 0) ∙ n.counter;
        word = (λ i. get_or (sym words i) (suc (sym deep i + sym sides i)) 0) ∙ rk.4.base;
        home = λ k lt. let h = (r.each_turn k (omega arith)).home (all_free k) in (h.0, home k (Some h.0) h.1, h.2);
        once = λ m lo hi. sym (total_only (λ u. times m u.drawn) s.views id v at (λ j u ne t. times_of_none m u.drawn (none_drawn u.parts (length u.drawn) (allotment chairs) (none_else j u ne t) (n.each_chair j u t).few))) ∙ n.once m lo hi;
        drawer = n.each_chair id v at;
        marked = rk.4.marked;
        reader = rk.4.each_chair id v at;
        charges = λ f. sym (total_only (charges_in f) s.views id v at (λ j u ne t. ap (tally f) (rk.4.idle j u t (none_else j u ne t)))) ∙ rk.4.charges f;
      }
    where
      times_of_none : (m : ℕ) (ds : List (ℕ × E)) → length ds ≡ 0 → times m ds ≡ 0
      times_of_none m [] e = refl
      times_of_none m (d ∷ ds) e = absurd (omega arith)

      none_drawn : (parts drew most : ℕ) → parts ≡ 0 → drew ≤ parts * most → drew ≡ 0
      none_drawn zero drew most z le = omega arith
      none_drawn (suc p) drew most z le = absurd (omega arith)

  page_under : (b : ℕ) (K : Known P Q R E) (x : Item M P Q R E) → Stands μ (Page b) K x → (p : P) × (x ≡ item.Page p) × μ.page b K p
  page_under b K (item.Page p) s = (p, refl, s)
  page_under b K (item.Side q) s = absurd s
  page_under b K (item.Root r) s = absurd s

  side_under : (i : ℕ) (K : Known P Q R E) (x : Item M P Q R E) → Stands μ (Side i) K x → (q : Q) × (x ≡ item.Side q) × μ.side i K q
  side_under i K (item.Page p) s = absurd s
  side_under i K (item.Side q) s = (q, refl, s)
  side_under i K (item.Root r) s = absurd s

  root_under : (K : Known P Q R E) (x : Item M P Q R E) → Stands μ Root K x → (r : R) × (x ≡ item.Root r) × μ.root K r
  root_under K (item.Page p) s = absurd s
  root_under K (item.Side q) s = absurd s
  root_under K (item.Root r) s = (r, refl, s)

  stands_at : (t : Turn) (k : ℕ) (K : Known P Q R E) (x : Item M P Q R E) → turn_at o k ≡ t → Stands μ (turn_at o k) K x → Stands μ t K x
  stands_at t k K x e s = subst (λ u. Stands μ u K x) e s

  module _ (v : ChairView P Q R E) (ws : List ℕ) (xs : List (Option (Item M P Q R E))) (h : Home v ws xs) (deep : length xs ≡ slots o) where
    pub has_pages : HasPages (length o.pages) xs
    has_pages k lt = let x = h.home k (omega arith) in let p = page_under k h.known x.0 (stands_at (Page k) k h.known x.0 (page_at o k lt) x.2) in (p.0, x.1 ∙ ap (λ y. some (Some y)) p.1)

    pub has_sides : HasSides (length o.pages) (length o.sides) xs
    has_sides i lt = let k = length o.pages + i in let x = h.home k (omega arith) in let q = side_under i h.known x.0 (stands_at (Side i) k h.known x.0 (side_at o i lt) x.2) in (q.0, x.1 ∙ ap (λ y. some (Some y)) q.1)

    pub has_root : HasRoot (length o.pages + length o.sides) xs
    has_root = let k = length o.pages + length o.sides in let x = h.home k (omega arith) in let r = root_under h.known x.0 (stands_at Root k h.known x.0 (root_at o) x.2) in (r.0, x.1 ∙ ap (λ y. some (Some y)) r.1)

    at_home : (t : Turn) (k : ℕ) (x : Item M P Q R E) → k < length xs → turn_at o k ≡ t → get_elem? xs k ≡ some (Some x) → Stands μ t h.known x
    at_home t k x lt e there =
        let y = h.home k lt in
        let same : Some y.0 ≡ Some x = some-injective _ _ (sym y.1 ∙ there) in
        let one : y.0 ≡ x = cc in
        stands_at t k h.known x e (subst (Stands μ (turn_at o k) h.known) one y.2)

    pub ended : (views : List (ChairView P Q R E)) (pages : List P) (sides : List Q) (root : R) (count next base : ℕ) → count ≡ length xs → get_elem? ws count ≡ some next → get_elem? ws (suc (count + length o.sides)) ≡ some base
        → length pages ≡ length o.pages → ArePages xs pages → length sides ≡ length o.sides → AreSides (length o.pages) xs sides → IsRoot (length o.pages + length o.sides) xs root
        → v.drawn ≡ drawn_of views → v.read ≡ read_of views → Each (IsInOrder μ) views → v.reading.charged ≡ charged_of views → Each (λ u. u.reading.done ≤ v.reading.done) views
        → Each (λ u. u.reading.base ≤ v.reading.base) views → Each (λ u. u.seen ≤ v.seen) views → DeskEnded μ o views pages sides root next base
    ended views pages sides root count next base len at base_at all_pages are_pages all_sides are_sides is_root drew read ordered charged done based seen =
        let is : next ≡ newest h.known = sym (get_at ws count next at) ∙ (ap (λ i. get_or ws i 0) len ∙ h.counter) in
        let first : h.known.opening.base ≡ o.base = ap (λ p. p.base) h.opening in record {
          known = h.known;
          opening = h.opening;
          ok = h.ok;
          next_is = is;
          base_is = sym (get_at ws (suc (count + length o.sides)) base base_at) ∙ (ap (λ i. get_or ws (suc (i + length o.sides)) 0) len ∙ h.word);
          all_pages = all_pages;
          pages_stand = λ b x there. let lt : b < length o.pages = let z = slice_get_within pages b x there in omega arith in at_home (Page b) b (item.Page x) (omega arith) (page_at o b lt) (are_pages b x there);
          all_sides = all_sides;
          sides_stand = λ i x there. let lt : i < length o.sides = let z = slice_get_within sides i x there in omega arith in at_home (Side i) (length o.pages + i) (item.Side x) (omega arith) (side_at o i lt) (are_sides i x there);
          root_stands = at_home Root (length o.pages + length o.sides) (item.Root root) (omega arith) (root_at o) is_root;
          drew = subst (Each (λ d. HasNumberAt h.known.opening.base h.known.log d.0 d.1)) drew h.drawer.drew;
          once = λ n lo hi. ap (times n) (sym drew) ∙ h.once n (omega arith) (omega arith);
          read = subst (Each (λ r. μ.ok r.1 × Grows r.1 h.known × μ.fits r.0 r.1)) read h.drawer.read;
          ordered = ordered;
          marked = h.marked;
          done = each_map _ _ (λ u le m e there low. h.reader.done m e there (omega arith)) views done;
          based = each_map _ _ (λ u le. let word = h.reader.base in omega arith) views based;
          seen = each_map _ _ (λ u le. let low = h.drawer.seen in omega arith) views seen;
          charges = λ f. ap (tally f) (sym charged) ∙ h.charges f;
        }
