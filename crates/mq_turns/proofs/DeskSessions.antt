-- What each kind of step does to the sessions.
use Rattle.std.proofs.Common.{◌≡◌, ◌≢◌, ℕ, zero, suc, ◌+◌, ◌-◌, ◌<◌, ◌≤◌, List, [], ◌∷◌, ◌++◌, set, sym, refl, ap, ◌∙◌, subst, ⊎_elim, arith}
use mathlib.Core.Logic.{dite}
use mathlib.Core.Option.{some}
use native.Mathlib.Decide.{ℕ_discrete}
use lib.ListN.{get_elem?}
use Rattle.atomic_table.proofs.Lists.{at_snoc, set_else}
use Rattle.mq_blocks.specs.Totals.{total}
use Rattle.mq_turns.specs.Lists.{tick, times}
use Rattle.mq_turns.specs.Meaning.{Meaning, newest, drawn, HasNumberAt}
use Rattle.mq_turns.specs.Desk.{Now, Follows, Sessions, Sitter, behind, blank, joined, others, seated, sessions_from, sits}
use Rattle.mq_turns.specs.declared.rule.Known.{Known}
use Rattle.mq_turns.specs.declared.rule.ChairView.{ChairView}
use Rattle.mq_blocks.proofs.Totals.{total_set, total_same, total_two, total_append, total_pair}
use Rattle.mq_turns.proofs.Lists.{hit, miss, times_append}
use Rattle.mq_turns.proofs.DeskTurns.{Homes, chairs_stay}

abbrev pub count_in : ℕ → List ℕ → ℕ
count_in i l = total (λ j. tick j i) l

-- sessions that begin above i
from_above : (i j n : ℕ) → i < j → count_in i (sessions_from j n) ≡ 0
from_above i j zero lt = refl
from_above i j (suc n) lt = let z = miss j i (λ e. omega arith) in let ih = from_above i (suc j) n (omega arith) in omega arith

pub from_once : (i j n : ℕ) → count_in i (sessions_from j n) ≤ 1
from_once i j zero = omega arith
from_once i j (suc n) = dite (ℕ_discrete j i)
    (λ e. let z = hit j i e in let y = from_above i (suc j) n (omega arith) in omega arith)
    (λ ne. let z = miss j i ne in let y = from_once i (suc j) n in omega arith)

pub from_first : (j n : ℕ) → 0 < n → 0 < count_in j (sessions_from j n)
from_first j zero lt = absurd (omega arith)
from_first j (suc n) lt = let z = hit j j refl in omega arith

pub from_next : (j n : ℕ) → behind (sessions_from j n) ≡ sessions_from (suc j) (n - 1)
from_next j zero = refl
from_next j (suc n) = ap (sessions_from (suc j)) (omega arith)

module _ {P Q R E : Type 0} where
  -- the view is cut, and the first of its sessions is set apart
  pub cut_counts : (v : ChairView P Q R E) → 0 < v.parts → v.sessions ≡ sessions_from v.session v.parts → (i : ℕ) → sits i (others v) + sits i (seated v) ≡ sits i v
  cut_counts v live is i = cut v.session v.parts v.sessions live is
    where
      cut : (j n : ℕ) (l : List ℕ) → 0 < n → l ≡ sessions_from j n → count_in i (behind l) + count_in i (j ∷ []) ≡ count_in i l
      cut j zero l lt e = absurd (omega arith)
      cut j (suc n) l lt e = rw e (omega arith)

  pub joined_counts : (v w : ChairView P Q R E) (i : ℕ) → sits i (joined v w) + sits i (blank {P = P} {Q = Q} {R = R} {E = E}) ≡ sits i v + sits i w
  joined_counts v w i = let a = total_append (λ j. tick j i) v.sessions w.sessions in omega arith

module _ {P Q R E : Type 0} (μ : Meaning P Q R E) where
  pub cut_sits : (K : Known P Q R E) (v : ChairView P Q R E) → 0 < v.parts → v.drawn ≡ [] → v.sessions ≡ sessions_from v.session v.parts → Sitter μ K v → Sitter μ K (others v) × Sitter μ K (seated v)
  cut_sits K v live none is s =
      let count : (i : ℕ) → sits i (others v) + sits i (seated v) ≡ sits i v = cut_counts v live is in
      let nothing : (n : ℕ) → times n v.drawn ≡ 0 = λ n. ap (times n) none in (
        record {
          own = λ some. next v.session v.parts v.sessions is (omega arith);
          drew = λ n e at here. let c = count (μ.session e) in s.drew n e at (omega arith);
        },
        record {
          own = λ some. let a = hit v.session v.session refl in omega arith;
          drew = λ n e at here. let c = count (μ.session e) in let a = s.drew n e at (omega arith) in let b = nothing n in absurd (omega arith);
        },
      )
    where
      next : (j n : ℕ) (l : List ℕ) → l ≡ sessions_from j n → 1 < n → 0 < count_in (suc j) (behind l)
      next j zero l e lt = absurd (omega arith)
      next j (suc n) l e lt = rw e (from_first (suc j) n (omega arith))

  pub joined_sits : (K : Known P Q R E) (v w : ChairView P Q R E) → 0 < v.parts → Sitter μ K v → Sitter μ K w → Sitter μ K (joined v w)
  joined_sits K v w live s t = record {
    own = λ some. let a = s.own (λ z. omega arith) in let b = total_append (λ j. tick j v.session) v.sessions w.sessions in omega arith;
    drew = λ n e at here.
        let a = total_append (λ j. tick j (μ.session e)) v.sessions w.sessions in
        let b = times_append n v.drawn w.drawn in
        dite (ℕ_discrete (sits (μ.session e) v) 0)
        (λ z. let d = t.drew n e at (omega arith) in omega arith)
        (λ ne. let d = s.drew n e at (omega arith) in omega arith);
  }

  -- no session stands in the view
  pub sitter_none : (K : Known P Q R E) (v : ChairView P Q R E) → v.parts ≡ 0 → v.sessions ≡ [] → Sitter μ K v
  sitter_none K v parts none = record {
    own = λ some. absurd (some parts);
    drew = λ n e at here. let z : sits (μ.session e) v ≡ 0 = ap (count_in (μ.session e)) none in absurd (omega arith);
  }

  -- nothing was drawn by then
  pub sitter_same : (K L : Known P Q R E) (v w : ChairView P Q R E) → L.opening ≡ K.opening → L.log ≡ K.log → w.parts ≡ v.parts → w.session ≡ v.session → w.sessions ≡ v.sessions → w.drawn ≡ v.drawn → Sitter μ K v → Sitter μ L w
  sitter_same K L v w opening log parts session sessions drawn s = record {
    own = λ some. let a = s.own (λ e. some (parts ∙ e)) in let b : sits w.session w ≡ sits v.session v = (λ i. count_in (session i) (sessions i)) in omega arith;
    drew = λ n e at here.
        let F : ℕ × List E → Type 0 = λ z. HasNumberAt z.0 z.1 n e in
        let was : HasNumberAt K.opening.base K.log n e = subst F (λ i. (ap (λ o. o.base) opening i, log i)) at in
        let b : sits (μ.session e) w ≡ sits (μ.session e) v = ap (count_in (μ.session e)) sessions in
        let c : times n w.drawn ≡ times n v.drawn = ap (times n) drawn in
        let d = s.drew n e was (omega arith) in omega arith;
  }

module _ {M P Q R E : Type 0} (μ : Meaning P Q R E) where
  -- a step at which nothing is drawn
  pub sessions_stay : (K L : Known P Q R E) (s : Now M P Q R E) (id : ℕ) (v w : ChairView P Q R E) (words' : List ℕ) (homes' : Homes M P Q R E) → Sessions μ K s → get_elem? s.views id ≡ some v → L.opening ≡ K.opening → L.log ≡ K.log
      → w.parts ≡ v.parts → w.session ≡ v.session → w.sessions ≡ v.sessions → w.drawn ≡ v.drawn → Sessions μ L record { words = words'; homes = homes'; views = set s.views id w }
  sessions_stay K L s id v w words' homes' r at opening log parts session sessions drawn = record {
    single = λ i. let a = total_same (sits i) s.views id v w at (ap (count_in i) sessions) in let b = r.single i in omega arith;
    each_chair = chairs_stay (Sitter μ L) s.views id w
        (sitter_same μ K L v w opening log parts session sessions drawn (r.each_chair id v at))
        (λ j u ne o. sitter_same μ K L u u opening log refl refl refl refl (r.each_chair j u o));
  }

  -- a number is drawn, by the one view that has the session
  pub sessions_draw : (e : E) (K : Known P Q R E) (s : Now M P Q R E) (id : ℕ) (v w : ChairView P Q R E) (words' : List ℕ) → Sessions μ K s → get_elem? s.views id ≡ some v → 0 < v.parts → Follows μ e v
      → w.parts ≡ v.parts → w.session ≡ v.session → w.sessions ≡ v.sessions → w.drawn ≡ (suc (newest K), e) ∷ v.drawn → Sessions μ (drawn e K) record { words = words'; homes = s.homes; views = set s.views id w }
  sessions_draw e K s id v w words' r at live follows parts session sessions drew =
      let L : Known P Q R E = drawn e K in
      let d = r.each_chair id v at in
      let mine : 0 < sits (μ.session e) v = subst (λ i. 0 < sits i v) (sym follows.session) (d.own (λ z. omega arith)) in
      let more : (n : ℕ) → times n w.drawn ≡ tick (suc (newest K)) n + times n v.drawn = λ n. ap (times n) drew in record {
        single = λ i. let a = total_same (sits i) s.views id v w at (ap (count_in i) sessions) in let b = r.single i in omega arith;
        each_chair = chairs_stay (Sitter μ L) s.views id w
            record {
              own = λ some. let a = d.own (λ z. some (parts ∙ z)) in let b : sits w.session w ≡ sits v.session v = (λ i. count_in (session i) (sessions i)) in omega arith;
              drew = λ n x there here. ⊎_elim
                  (λ (t : (n ≡ suc (newest K)) × (e ≡ x)). let a = hit (suc (newest K)) n (sym t.0) in let b = more n in omega arith)
                  (λ (t : HasNumberAt K.opening.base K.log n x). let c : sits (μ.session x) w ≡ sits (μ.session x) v = ap (count_in (μ.session x)) sessions in let a = d.drew n x t (omega arith) in let b = more n in omega arith)
                  there;
            }
            (λ j u ne o. let old = r.each_chair j u o in record {
              own = old.own;
              drew = λ n x there here. ⊎_elim
                  (λ (t : (n ≡ suc (newest K)) × (e ≡ x)).
                  let both = total_two (sits (μ.session e)) s.views id j v u at o ne in
                  let one = r.single (μ.session e) in
                  let his : 0 < sits (μ.session e) u = subst (λ y. 0 < sits (μ.session y) u) (sym t.1) here in absurd (omega arith))
                  (λ (t : HasNumberAt K.opening.base K.log n x). old.drew n x t here)
                  there;
            });
      }

  -- a view is cut in two
  pub sessions_split : (K : Known P Q R E) (s : Now M P Q R E) (id : ℕ) (v w o : ChairView P Q R E) → Sessions μ K s → get_elem? s.views id ≡ some v → ((i : ℕ) → sits i w + sits i o ≡ sits i v) → (Sitter μ K v → Sitter μ K w × Sitter μ K o)
      → Sessions μ K record { words = s.words; homes = s.homes; views = set s.views id w ++ o ∷ [] }
  sessions_split K s id v w o r at same both =
      let vs : List (ChairView P Q R E) = set s.views id w in
      let c = both (r.each_chair id v at) in
      record {
        single = λ i. let a = total_append (sits i) vs (o ∷ []) in let b = total_set (sits i) s.views id v w at in let d = same i in let e = r.single i in omega arith;
        each_chair = λ j u e. ⊎_elim
            (λ (x : get_elem? vs j ≡ some u). chairs_stay (Sitter μ K) s.views id w c.0 (λ k y ne f. r.each_chair k y f) j u x)
            (λ (t : o ≡ u). subst (Sitter μ K) t c.1) (at_snoc vs o u j e);
      }

  -- a view takes in another's
  pub sessions_join : (K : Known P Q R E) (s : Now M P Q R E) (id : ℕ) (v : ChairView P Q R E) (other : ℕ) (w b z : ChairView P Q R E) → Sessions μ K s → get_elem? s.views id ≡ some v
      → other ≢ id → get_elem? (set s.views id b) other ≡ some w → ((i : ℕ) → sits i b + sits i z ≡ sits i v + sits i w) → (Sitter μ K v → Sitter μ K w → Sitter μ K b × Sitter μ K z)
      → Sessions μ K record { words = s.words; homes = s.homes; views = set (set s.views id b) other z }
  sessions_join K s id v other w b z r at apart there same both =
      let was : get_elem? s.views other ≡ some w = sym (set_else s.views id other b apart) ∙ there in
      let c = both (r.each_chair id v at) (r.each_chair other w was) in
      record {
        single = λ i. let a = total_pair (sits i) s.views id other v b w z at there (same i) in let d = r.single i in omega arith;
        each_chair = chairs_stay (Sitter μ K) (set s.views id b) other z c.1 (λ j u ne e. chairs_stay (Sitter μ K) s.views id b c.0 (λ k y ne' f. r.each_chair k y f) j u e);
      }
