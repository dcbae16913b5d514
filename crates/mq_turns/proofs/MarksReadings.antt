-- What each kind of step does to the marks, to the base, and to what the chairs read of them.
use Rattle.std.proofs.Common.{◌≡◌, ◌≢◌, ℕ, suc, ◌+◌, ◌<◌, Bool, List, [], ◌∷◌, ◌++◌, length, get_or, set, sym, refl, ap, ◌∙◌, subst, ⊎_elim, arith}
use mathlib.Core.Option.{some}
use lib.ListN.{get_elem?}
use Rattle.atomic_table.proofs.Lists.{at_set, at_snoc, set_else}
use Rattle.mq_turns.specs.Meaning.{Meaning, Grows}
use Rattle.mq_turns.specs.Lists.{tally}
use Rattle.mq_turns.specs.Marks.{mark_of, Marked, Reader}
use Rattle.mq_turns.specs.Desk.{Now, Words}
use Rattle.mq_turns.specs.declared.rule.Charge.{Charge}
use Rattle.mq_turns.specs.declared.rule.Known.{Known}
use Rattle.mq_turns.specs.declared.rule.Reading.{Reading}
use Rattle.mq_turns.specs.declared.rule.ChairView.{ChairView}
use Rattle.mq_blocks.proofs.Totals.{total_set, total_append, total_pair}
use Rattle.mq_turns.proofs.Meaning.{grows_now}
use Rattle.mq_turns.proofs.MarksClaims.{reader_grows}
use Rattle.mq_turns.proofs.DeskTurns.{Homes, chairs_stay}

abbrev pub charges_in : {P Q R E : Type 0} → (Charge → Bool) → ChairView P Q R E → ℕ
charges_in f v = tally f v.reading.charged

pub tally_append : {A : Type 0} (f : A → Bool) (xs ys : List A) → tally f (xs ++ ys) ≡ tally f xs + tally f ys
tally_append f [] ys = omega arith
tally_append f (x ∷ xs) ys = let ih = tally_append f xs ys in omega arith

-- what stands for no chair has charged nothing
abbrev pub Idle : {P Q R E : Type 0} → ChairView P Q R E → Type 0
Idle u = u.parts ≡ 0 → u.reading.charged ≡ []

module _ {M P Q R E : Type 0} (μ : Meaning P Q R E) where
  -- the words and the chair's reading by what is known after a step
  pub record Told (K L : Known P Q R E) (s : Now M P Q R E) (v w : ChairView P Q R E) (words' : List ℕ) : Type 0 where
    pub grows : Grows K L
    pub marked : Marked μ L
    pub marks : (q : ℕ) → q < length K.opening.sides → get_or words' (suc (length s.homes + q)) 0 ≡ mark_of q L.claims
    pub base : get_or words' (suc (length s.homes + length K.opening.sides)) 0 ≡ L.word
    pub charges : (f : Charge → Bool) → charges_in f w + tally f K.charges ≡ charges_in f v + tally f L.charges
    pub reader : Reader μ L w.reading
    pub idle : w.parts ≡ 0 → w.reading.charged ≡ []

  pub words_step : (K L : Known P Q R E) (s : Now M P Q R E) (id : ℕ) (v w : ChairView P Q R E) (words' : List ℕ) (homes' : Homes M P Q R E) → Words μ K s → get_elem? s.views id ≡ some v
      → length words' ≡ length s.words → length homes' ≡ length s.homes → Told K L s v w words' → Words μ L record { words = words'; homes = homes'; views = set s.views id w }
  words_step K L s id v w words' homes' r at wide deep t =
      let sides : length L.opening.sides ≡ length K.opening.sides = ap (λ o. length o.sides) t.grows.opening in
      let was = r.wide in record {
        wide = omega arith;
        marks = λ q lt. ap (λ n. get_or words' (suc (n + q)) 0) deep ∙ t.marks q (omega arith);
        base = (λ i. get_or words' (suc (deep i + sides i)) 0) ∙ t.base;
        marked = t.marked;
        charges = λ f. let a = total_set (charges_in f) s.views id v w at in let b = r.charges f in let c = t.charges f in omega arith;
        each_chair = chairs_stay (λ u. Reader μ L u.reading) s.views id w t.reader (λ j u ne e. reader_grows μ K L u.reading t.grows (r.each_chair j u e));
        idle = chairs_stay (λ u. u.parts ≡ 0 → u.reading.charged ≡ []) s.views id w t.idle (λ j u ne e. r.idle j u e);
      }

  -- a step on a turn's word or the counter, at which nothing is read or noted, but an entry may be drawn
  pub words_stay : (K L : Known P Q R E) (s : Now M P Q R E) (id : ℕ) (v w : ChairView P Q R E) (words' : List ℕ) (homes' : Homes M P Q R E) → Words μ K s → get_elem? s.views id ≡ some v
      → length words' ≡ length s.words → length homes' ≡ length s.homes → ((k : ℕ) → length s.homes < k → get_or words' k 0 ≡ get_or s.words k 0) → w.parts ≡ v.parts → w.reading ≡ v.reading
      → Grows K L → Marked μ L → L.claims ≡ K.claims → L.word ≡ K.word → L.charges ≡ K.charges → Words μ L record { words = words'; homes = homes'; views = set s.views id w }
  words_stay K L s id v w words' homes' r at wide deep far parts same g marked claims word charges = words_step K L s id v w words' homes' r at wide deep record {
    grows = g;
    marked = marked;
    marks = λ q lt. far (suc (length s.homes + q)) (omega arith) ∙ (r.marks q lt ∙ ap (mark_of q) (sym claims));
    base = far (suc (length s.homes + length K.opening.sides)) (omega arith) ∙ (r.base ∙ sym word);
    charges = λ f. let a : charges_in f w ≡ charges_in f v = ap (λ (x : Reading P Q R E). tally f x.charged) same in let b : tally f L.charges ≡ tally f K.charges = ap (tally f) charges in omega arith;
    reader = subst (Reader μ L) (sym same) (reader_grows μ K L v.reading g (r.each_chair id v at));
    idle = λ z. ap (λ (x : Reading P Q R E). x.charged) same ∙ r.idle id v at (sym parts ∙ z);
  }

  -- nothing becomes known
  pub words_same : (K : Known P Q R E) (s : Now M P Q R E) (id : ℕ) (v w : ChairView P Q R E) (words' : List ℕ) (homes' : Homes M P Q R E) → Words μ K s → get_elem? s.views id ≡ some v
      → length words' ≡ length s.words → length homes' ≡ length s.homes → ((k : ℕ) → length s.homes < k → get_or words' k 0 ≡ get_or s.words k 0) → w.parts ≡ v.parts → w.reading ≡ v.reading
      → Words μ K record { words = words'; homes = homes'; views = set s.views id w }
  words_same K s id v w words' homes' r at wide deep far parts same = words_stay K K s id v w words' homes' r at wide deep far parts same (grows_now K) r.marked refl refl refl

  -- a view is cut in two, and the new one has no charges
  pub words_split : (K : Known P Q R E) (s : Now M P Q R E) (id : ℕ) (v w o : ChairView P Q R E) → Words μ K s → get_elem? s.views id ≡ some v
      → w.reading.charged ≡ v.reading.charged → (w.parts ≡ 0 → w.reading.charged ≡ []) → o.reading.charged ≡ [] → (Reader μ K v.reading → Reader μ K w.reading × Reader μ K o.reading)
      → Words μ K record { words = s.words; homes = s.homes; views = set s.views id w ++ o ∷ [] }
  words_split K s id v w o r at same idle none both =
      let vs : List (ChairView P Q R E) = set s.views id w in
      let c = both (r.each_chair id v at) in
      record {
        wide = r.wide;
        marks = r.marks;
        base = r.base;
        marked = r.marked;
        charges = λ f.
            let x = total_append (charges_in f) vs (o ∷ []) in
            let y = total_set (charges_in f) s.views id v w at in
            let a : charges_in f w ≡ charges_in f v = ap (tally f) same in
            let b : charges_in f o ≡ 0 = ap (tally f) none in
            let z = r.charges f in omega arith;
        each_chair = λ j u e. ⊎_elim
            (λ (x : get_elem? vs j ≡ some u). ⊎_elim (λ (t : (j ≡ id) × (w ≡ u)). subst (λ y. Reader μ K y.reading) t.1 c.0)
            (λ (t : (j ≢ id) × (get_elem? s.views j ≡ some u)). r.each_chair j u t.1) (at_set s.views id j w u x))
            (λ (t : o ≡ u). subst (λ y. Reader μ K y.reading) t c.1) (at_snoc vs o u j e);
        idle = λ j u e. ⊎_elim
            (λ (x : get_elem? vs j ≡ some u). chairs_stay Idle s.views id w idle (λ i y ne f. r.idle i y f) j u x)
            (λ (t : o ≡ u). subst Idle t (λ z. none)) (at_snoc vs o u j e);
      }

  -- a view takes in another's, which is blank then
  pub words_join : (K : Known P Q R E) (s : Now M P Q R E) (id : ℕ) (v : ChairView P Q R E) (other : ℕ) (w b z : ChairView P Q R E) → Words μ K s → get_elem? s.views id ≡ some v
      → other ≢ id → get_elem? (set s.views id b) other ≡ some w → ((f : Charge → Bool) → charges_in f b + charges_in f z ≡ charges_in f v + charges_in f w)
      → (b.parts ≡ 0 → b.reading.charged ≡ []) → z.reading.charged ≡ [] → (Reader μ K v.reading → Reader μ K w.reading → Reader μ K b.reading × Reader μ K z.reading)
      → Words μ K record { words = s.words; homes = s.homes; views = set (set s.views id b) other z }
  words_join K s id v other w b z r at apart there same idle none both =
      let was : get_elem? s.views other ≡ some w = sym (set_else s.views id other b apart) ∙ there in
      let c = both (r.each_chair id v at) (r.each_chair other w was) in
      record {
        wide = r.wide;
        marks = r.marks;
        base = r.base;
        marked = r.marked;
        charges = λ f. total_pair (charges_in f) s.views id other v b w z at there (same f) ∙ r.charges f;
        each_chair = λ j u e. ⊎_elim
            (λ (t : (j ≡ other) × (z ≡ u)). subst (λ y. Reader μ K y.reading) t.1 c.1)
            (λ (x : (j ≢ other) × (get_elem? (set s.views id b) j ≡ some u)). ⊎_elim
            (λ (t : (j ≡ id) × (b ≡ u)). subst (λ y. Reader μ K y.reading) t.1 c.0)
            (λ (t : (j ≢ id) × (get_elem? s.views j ≡ some u)). r.each_chair j u t.1) (at_set s.views id j b u x.1))
            (at_set (set s.views id b) other j z u e);
        idle = chairs_stay Idle (set s.views id b) other z (λ y. none) (λ j u ne e. chairs_stay Idle s.views id b idle (λ i y ne' f. r.idle i y f) j u e);
      }
