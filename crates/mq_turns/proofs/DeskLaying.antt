-- A new desk: what one view holds at first, and how it lays it down.
use Rattle.std.proofs.Common.{◌≡◌, ◌⊎◌, ℕ, zero, suc, ◌+◌, ◌-◌, ◌^◌, ◌<◌, ◌≤◌, cond, Bool, List, [], ◌∷◌, ◌++◌, map, length, get_or, sym, refl, ap, ◌∙◌, subst, ⊎_elim, inl, inr, arith, Option, Some, None, replicate, eq-eqb, ne_eqb}
use mathlib.Core.Logic.{dite}
use mathlib.Core.Option.{some, some-ne-none, some-injective}
use native.Mathlib.Decide.{ℕ_discrete}
use lib.ListN.{get_elem?, length-map, length-replicate}
use Rattle.std.specs.Prelude.{slice_get}
use Rattle.std.proofs.lemmas.Option.{slice_get_within}
use Rattle.atomic_table.specs.Table.{opening}
use Rattle.mq_turns.specs.Meaning.{AreLaws, Meaning, opened}
use Rattle.mq_turns.specs.Marks.{Reader}
use Rattle.mq_turns.specs.Lists.{Each, times, without}
use Rattle.mq_turns.specs.Desk.{slots, turn_at, fresh, slots_from, laying, first_view, others, seated, Stay, Sees, Holder, Drawer, Sitter, allotment, Ruled, Stands}
use Rattle.mq_turns.specs.Opened.{AreOpenWords}
use Rattle.mq_turns.specs.Chairs.{Starts}
use Rattle.mq_turns.specs.declared.rule.Opening.{Opening}
use Rattle.mq_turns.specs.declared.rule.Known.{Known}
use Rattle.mq_turns.specs.declared.rule.ChairView.{ChairView}
use Rattle.mq_turns.specs.declared.turn.Turn.{Turn}
use Rattle.mq_turns.specs.declared.turn.Turn.TheVariants.{Page, Side, Root}
use Rattle.mq_turns.specs.declared.turn.Item.{Item}
use Rattle.mq_turns.proofs.Lists.{hit, miss}
use Rattle.mq_turns.proofs.Meaning.{stays_now}
use Rattle.mq_turns.proofs.DeskOrder.{order_none}
use Rattle.mq_turns.proofs.DeskTurns.{Homes}
use Rattle.mq_turns.proofs.MarksClaims.{reader_first}
use Rattle.mq_turns.proofs.DeskSessions.{from_first, from_next, from_once}
use Rattle.mq_turns.proofs.DeskSeen.{opening_seen, stands_seen}
use Rattle.mq_turns.proofs.DeskSlots.{page_at, side_at, root_at}

-- the last of a list
pub get_snoc : {A : Type 0} (l : List A) (a x : A) (j : ℕ) → slice_get (l ++ a ∷ []) j ≡ Some x → (slice_get l j ≡ Some x) ⊎ ((j ≡ length l) × (a ≡ x))
get_snoc [] a x zero e = inr (refl, cc)
get_snoc [] a x (suc j) e = absurd (cc)
get_snoc (b ∷ bs) a x zero e = inl e
get_snoc (b ∷ bs) a x (suc j) e = ⊎_elim inl (λ t. inr (ap suc t.0, t.1)) (get_snoc bs a x j e)

get_front : {A : Type 0} (l : List A) (a x : A) (j : ℕ) → slice_get l j ≡ Some x → slice_get (l ++ a ∷ []) j ≡ Some x
get_front [] a x j e = absurd (cc)
get_front (b ∷ bs) a x zero e = e
get_front (b ∷ bs) a x (suc j) e = get_front bs a x j e

get_last : {A : Type 0} (l : List A) (a : A) → slice_get (l ++ a ∷ []) (length l) ≡ Some a
get_last [] a = refl
get_last (b ∷ bs) a = get_last bs a

-- what holds of each, by its place, of a list that grows at its end
pub each_snoc : {A : Type 0} (F : ℕ → A → Type 0) (ys xs : List A) (x : A) (n : ℕ) → ys ≡ xs ++ x ∷ [] → n ≡ length xs → ((i : ℕ) (a : A) → slice_get xs i ≡ Some a → F i a) → F n x → (i : ℕ) (a : A) → slice_get ys i ≡ Some a → F i a
each_snoc {A} F ys xs x n e len h last i a at = ⊎_elim (λ f. h i a f) (λ t. subst (λ (z : ℕ × A). F z.0 z.1) (λ j. ((len ∙ sym t.0) j, t.1 j)) last) (get_snoc xs x a i (sym (ap (λ l. slice_get l i) e) ∙ at))

pub each_pop : {A : Type 0} (F : ℕ → A → Type 0) (ys xs : List A) (x : A) → ys ≡ xs ++ x ∷ [] → ((i : ℕ) (a : A) → slice_get ys i ≡ Some a → F i a) → F (length xs) x × ((i : ℕ) (a : A) → slice_get xs i ≡ Some a → F i a)
each_pop F ys xs x e h = (h (length xs) x (ap (λ l. slice_get l (length xs)) e ∙ get_last xs x), λ i a at. h i a (ap (λ l. slice_get l i) e ∙ get_front xs x a i at))

-- the front of a list, one shorter
pub front_pop : {A : Type 0} (all ys xs : List A) (x : A) → ys ≡ xs ++ x ∷ [] → ((i : ℕ) (a : A) → slice_get ys i ≡ Some a → slice_get all i ≡ Some a) → (i : ℕ) (a : A) → slice_get xs i ≡ Some a → slice_get all i ≡ Some a
front_pop all ys xs x e h i a at = h i a (ap (λ l. slice_get l i) e ∙ get_front xs x a i at)

pub last_pop : {A : Type 0} (all ys xs : List A) (x : A) (n : ℕ) → ys ≡ xs ++ x ∷ [] → n ≡ length xs → ((i : ℕ) (a : A) → slice_get ys i ≡ Some a → slice_get all i ≡ Some a) → slice_get all n ≡ Some x
last_pop all ys xs x n e len h = h n x (ap (λ l. slice_get l n) e ∙ (ap (slice_get (xs ++ x ∷ [])) len ∙ get_last xs x))

module _ {P Q R : Type 0} (E : Type 0) (o : Opening P Q R) where
  abbrev Laid : ℕ → ℕ → List (ℕ × Known P Q R E)
  Laid j n = slots_from o j n

  below : (j n k : ℕ) → k < j → times k (Laid j n) ≡ 0
  below j zero k lt = refl
  below j (suc n) k lt = let ih = below (suc j) n k (omega arith) in let z = miss j k (λ e. omega arith) in omega arith

  once : (j n k : ℕ) → times k (Laid j n) ≤ 1
  once j zero k = omega arith
  once j (suc n) k = dite (ℕ_discrete j k)
      (λ e. let z = hit j k e in let y = below (suc j) n k (omega arith) in omega arith)
      (λ ne. let z = miss j k ne in let y = once (suc j) n k in omega arith)

  inside : (j n k : ℕ) → j ≤ k → k < j + n → times k (Laid j n) ≡ 1
  inside j zero k lo hi = absurd (omega arith)
  inside j (suc n) k lo hi = dite (ℕ_discrete j k)
      (λ e. let z = hit j k e in let y = below (suc j) n k (omega arith) in omega arith)
      (λ ne. let z = miss j k ne in let y = inside (suc j) n k (omega arith) (omega arith) in omega arith)

  gone : (j n k : ℕ) → k ≡ j + n → without k (Laid j (suc n)) ≡ Laid j n
  gone j zero k is = let F : Bool → List (ℕ × Known P Q R E) = λ b. cond b [] ((j, opened o) ∷ []) in ap F (eq-eqb j k (omega arith))
  gone j (suc n) k is = let z : List (ℕ × Known P Q R E) = without k (Laid (suc j) (suc n)) in let F : Bool → List (ℕ × Known P Q R E) = λ b. cond b z ((j, opened o) ∷ z) in
      ap F (ne_eqb j k (λ e. omega arith)) ∙ ap (λ l. (j, opened o) ∷ l) (gone (suc j) n k (omega arith))

  -- the last slot is laid
  pub laid_holds : (parts i n k : ℕ) (v : ChairView P Q R E) → v ≡ laying o parts i n → n ≡ suc k → 0 < times k v.held
  laid_holds parts i n k v e is = let z = inside 0 n k (omega arith) (omega arith) in let y : times k v.held ≡ times k (Laid 0 n) = ap (λ (u : ChairView P Q R E). times k u.held) e in omega arith

  pub laid : (parts i n k : ℕ) (v : ChairView P Q R E) → v ≡ laying o parts i n → n ≡ suc k → record v { hand = 0; held = without k v.held } ≡ laying o parts i k
  laid parts i n k v e is =
      let F : ChairView P Q R E → ChairView P Q R E = λ u. record u { hand = 0; held = without k u.held } in
      let G : List (ℕ × Known P Q R E) → ChairView P Q R E = λ h. record (laying o parts i 0) { held = h } in
      ap F (e ∙ ap (laying o parts i) is) ∙ ap G (gone 0 k k (omega arith))

  -- a chair is set apart
  pub set_apart : (p i : ℕ) (v : ChairView P Q R E) → v ≡ laying o p i 0 → others v ≡ laying o (p - 1) (suc i) 0
  set_apart p i v e =
      let F : List ℕ → ChairView P Q R E = λ l. record (laying o (p - 1) (suc i) 0) { sessions = l } in ap others e ∙ ap F (from_next i p)

  pub is_seated : (p i : ℕ) (v : ChairView P Q R E) → v ≡ laying o p i 0 → seated v ≡ fresh o i
  is_seated p i v e = ap seated e

all_vacant : {A : Type 0} (n i : ℕ) (a : A) → i < n → get_elem? (map some (replicate n a)) i ≡ some (some a)
all_vacant zero i a h = absurd (omega arith)
all_vacant (suc n) zero a h = refl
all_vacant (suc n) (suc i) a h = all_vacant n i a (omega arith)

module _ {M P Q R E : Type 0} (μ : Meaning P Q R E) (o : Opening P Q R) where
  all_stand : (t : Turn) (k j n : ℕ) (x : Item M P Q R E) → Stands μ t (opened o) x → Each (λ h. h.0 ≡ k → Stands μ t h.1 x) (Laid E o j n)
  all_stand t k j zero x s = tt
  all_stand t k j (suc n) x s = ((λ _. s), all_stand t k (suc j) n x s)

  -- a value of the opening stands under its slot, for the view that lays
  pub laid_stands : AreLaws μ → (parts i n k : ℕ) (t : Turn) (v : ChairView P Q R E) (x : Item M P Q R E) → v ≡ laying o parts i n → n ≡ suc k → turn_at o k ≡ t → Stands μ t (opened o) x → (K : Known P Q R E) → Sees μ v K → Stands μ (turn_at o k) K x
  laid_stands laws parts i n k t v x e last is s K seen =
      let held : v.held ≡ Laid E o 0 n = ap (λ (u : ChairView P Q R E). u.held) e in
      let F : List (ℕ × Known P Q R E) → Type 0 = λ l. Each (λ h. h.0 ≡ k → Stands μ (turn_at o k) h.1 x) l in
      let now : K.opening ≡ o = opening_seen μ o K v (ap (λ (u : ChairView P Q R E). u.opening) e) seen in
      stands_seen μ laws K v (turn_at o k) k x seen (laid_holds E o parts i n k v e last) (ap (λ p. turn_at p k) now)
      (subst F (sym held) (all_stand (turn_at o k) k 0 n x (subst (λ u. Stands μ u (opened o) x) (sym is) s)))

module _ {P Q R E : Type 0} (μ : Meaning P Q R E) (o : Opening P Q R) where
  pub root_laid : (k : ℕ) (x : R) → k ≡ length o.pages + length o.sides → x ≡ o.root → Starts μ o → (turn_at o k ≡ Root) × μ.root (opened o) x
  root_laid k x is e s = (ap (turn_at o) is ∙ root_at o, subst (μ.root (opened o)) (sym e) s.root)

  pub side_laid : (k n q : ℕ) (x : Q) → n ≡ length o.pages → k ≡ n + q → slice_get o.sides q ≡ Some x → Starts μ o → (turn_at o k ≡ Side q) × μ.side q (opened o) x
  side_laid k n q x pages is at s = (ap (turn_at o) (is ∙ ap (λ i. i + q) pages) ∙ side_at o q (slice_get_within o.sides q x at), s.sides q x at)

  pub page_laid : (b : ℕ) (x : P) → b < length o.pages → slice_get o.pages b ≡ Some x → Starts μ o → (turn_at o b ≡ Page b) × μ.page b (opened o) x
  page_laid b x lt at s = (page_at o b lt, s.pages b x at)

  all_kept : (all j n : ℕ) → j + n ≤ all → μ.ok (opened o) → Each (λ h. (h.0 < all) × μ.ok h.1 × Stay μ (turn_at o h.0) h.1 (opened o)) (Laid E o j n)
  all_kept all j zero le ok = tt
  all_kept all j (suc n) le ok = ((omega arith, ok, stays_now μ.touches μ.lies (turn_at o j) (opened o)), all_kept all (suc j) n (omega arith) ok)

module _ {M P Q R E : Type 0} (μ : Meaning P Q R E) (o : Opening P Q R) (chairs : ℕ) where
  abbrev vacant : ℕ → Homes M P Q R E
  vacant count = map some (replicate count None)

  -- the rule holds of a table without values, whose first view holds each turn
  pub opens : (words : List ℕ) (count : ℕ) → count ≡ slots o → AreOpenWords count (length o.sides) o.base words → o.base ≤ 2 ^ 62 → 0 < chairs → Starts μ o
      → Ruled {M = M} μ o chairs (opening words (replicate count None) (first_view o chairs))
  opens words count is ws small some_chair starts =
      let wide = ws.wide in
      let v : ChairView P Q R E = first_view o chairs in
      let deep : length (vacant count) ≡ count = length-map (replicate count None) (λ (x : Option (Item M P Q R E)). some x) ∙ length-replicate count None in
      let in_all : (k : ℕ) → k < count → times k v.held ≡ 1 = λ k lt. inside E o 0 (slots o) k (omega arith) (omega arith) in (
        opened o,
        refl,
        record {
          wide = omega arith;
          ok = starts.ok;
          single = λ k. let z = once E o 0 (slots o) k in omega arith;
          each_turn = λ k lt. let one = in_all k (omega arith) in record {
            word = let z = ws.turns k (omega arith) in omega arith;
            home = λ z. absurd (omega arith);
            away = λ _ _. all_vacant count k None (omega arith);
          };
          each_chair = λ j u e. only v j u e (Holder μ (turn_at o) (length (vacant count)) (opened o)) record {
            idle = λ z. absurd (omega arith);
            hand = λ k e'. absurd (omega arith);
            held = all_kept μ o (length (vacant count)) 0 (slots o) (omega arith) starts.ok;
          };
        },
        record {
          counter = ap (λ i. get_or words i 0) deep ∙ (ws.counter ∙ omega arith);
          whole = omega arith;
          counted = omega arith;
          once = λ n lo hi. absurd (omega arith);
          bounds = (small, some_chair);
          each_chair = λ j u e. only v j u e (Drawer μ (allotment chairs) (opened o)) record { few = omega arith; opening = λ _. refl; seen = omega arith; drew = tt; read = tt; order = λ one. order_none μ 0 };
        },
        record {
          wide = omega arith;
          marks = λ q lt. ap (λ n. get_or words (suc (n + q)) 0) deep ∙ ws.marks q lt;
          base = ap (λ n. get_or words (suc (n + length o.sides)) 0) deep ∙ ws.base;
          marked = record { own = λ n e at. absurd at; undone = λ n e at none. absurd at; above = λ q. omega arith; word = omega arith };
          charges = λ f. refl;
          each_chair = λ j u e. only v j u e (λ y. Reader μ (opened o) y.reading) (reader_first μ (opened o) o.base refl (omega arith));
          idle = λ j u e. only v j u e (λ y. y.parts ≡ 0 → y.reading.charged ≡ []) (λ z. refl);
        },
        record {
          single = λ i. let a = from_once i 0 chairs in omega arith;
          each_chair = λ j u e. only v j u e (Sitter μ (opened o)) record { own = λ _. from_first 0 chairs some_chair; drew = λ n x at here. absurd at };
        },
      )
    where
      only : (v : ChairView P Q R E) (j : ℕ) (u : ChairView P Q R E) → get_elem? (v ∷ []) j ≡ some u → (T : ChairView P Q R E → Type 0) → T v → T u
      only v zero u e T t = subst T (some-injective v u e) t
      only v (suc j) u e T t = absurd (some-ne-none u (sym e))
