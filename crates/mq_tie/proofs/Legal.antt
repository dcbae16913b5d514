-- Commits and reads are the machine's on the maps at their numbers.
use Rattle.std.proofs.Common.{◌≡◌, ℕ, ◌+◌, ◌-◌, ◌≤◌, List, [], ◌∷◌, ◌++◌, length, refl, sym, ap, subst, ◌∙◌, inl, inr, length-append, arith}
use Rattle.mq_blocks.specs.Machine.{Map, after}
use Rattle.mq_blocks.specs.declared.geometry.Geometry.{Geometry}
use Rattle.mq_ledger.specs.History.{change_of, map_after, upto}
use Rattle.mq_ledger.specs.declared.tx.Tx.{Tx}
use Rattle.mq_ledger.proofs.History.{upto-at, upto-past}
use Rattle.mq_pages.specs.declared.page.PageCell.{PageCell}
use Rattle.mq_desk_laws.specs.Groups.{GroupView}
use Rattle.mq_desk_laws.specs.Rule
use Rattle.mq_desk_laws.specs.Values.{Values}
use Rattle.mq_turns.specs.Meaning.{Grows, HasNumberAt, newest}
use Rattle.mq_turns.specs.declared.rule.Opening.{Opening}
use Rattle.mq_tie.specs.Legal.{IsCommit, IsRead, map_at}

-- what a transaction makes of a map doesn't depend on its number
after-numbered : (m : Map) (n : ℕ) (t : Tx) → after m (change_of (Rule.numbered n t)) ≡ after m (change_of t)
unfolding after
after-numbered m n t = refl

module _ {Q R E : Type 0} (values : Values Q R E) (group : GroupView E) where
  abbrev hist : ℕ → List E → List Tx
  hist = Rule.history values group

  upto-own : (base m : ℕ) (es : List E) → m ≡ base + length es → upto m (hist base es) ≡ hist base es
  upto-own base m [] e = refl
  upto-own base m (x ∷ xs) e = upto-at m (Rule.numbered (base + length xs + 1) (group.tx x)) (hist base xs) (omega arith)

  -- the transactions up to a number are those of the entries up to it
  pub upto-hist : (base m : ℕ) (newer es : List E) → m ≡ base + length es → upto m (hist base (newer ++ es)) ≡ hist base es
  upto-hist base m [] es e = upto-own base m es e
  upto-hist base m (x ∷ xs) es e =
      let long = length-append xs es in
      upto-past m (Rule.numbered (base + length (xs ++ es) + 1) (group.tx x)) (hist base (xs ++ es)) (omega arith) ∙ upto-hist base m xs es e

  -- where an entry stands in a legal history
  record StandsAt (g : Geometry) (start : Map) (base : ℕ) (es : List E) (n : ℕ) (e : E) : Type 0 where
    pub rest : List E
    pub number : n - 1 ≡ base + length rest
    pub before : upto (n - 1) (hist base es) ≡ hist base rest
    pub with_it : upto n (hist base es) ≡ Rule.numbered n (group.tx e) ∷ hist base rest
    pub does : group.does g (map_after start (hist base rest)) e
    pub placed : group.placed g start base (hist base rest) e

  stands-at : (g : Geometry) (start : Map) (base : ℕ) (es : List E) (n : ℕ) (e : E) → Rule.IsLegalHistory values group g start base es → HasNumberAt base es n e → StandsAt g start base es n e
  stands-at g start base [] n e legal at = absurd at
  stands-at g start base (x ∷ xs) n e legal (inl same) =
      let number : n - 1 ≡ base + length xs = let is = same.0 in omega arith in
      record {
        rest = xs;
        number = number;
        before = upto-hist base (n - 1) (x ∷ []) xs number;
        with_it =
            let is = same.0 in
            let at : base + length xs + 1 ≡ n = omega arith in
            upto-at n (Rule.numbered (base + length xs + 1) (group.tx x)) (hist base xs) (omega arith)
            ∙ (λ i. Rule.numbered (at i) (group.tx (same.1 i)) ∷ hist base xs);
        does = subst (λ (y : E). group.does g (map_after start (hist base xs)) y) same.1 legal.0;
        placed = subst (λ (y : E). group.placed g start base (hist base xs) y) same.1 legal.1;
      }
  stands-at g start base (x ∷ xs) n e legal (inr deeper) =
      let r = stands-at g start base xs n e legal.2 deeper in
      let number = r.number in
      let low = at-most base xs n e deeper in
      record {
        rest = r.rest;
        number = r.number;
        before = upto-past (n - 1) (Rule.numbered (base + length xs + 1) (group.tx x)) (hist base xs) (omega arith) ∙ r.before;
        with_it = upto-past n (Rule.numbered (base + length xs + 1) (group.tx x)) (hist base xs) (omega arith) ∙ r.with_it;
        does = r.does;
        placed = r.placed;
      }
    where
      at-most : (base : ℕ) (es : List E) (n : ℕ) (e : E) → HasNumberAt base es n e → n ≤ base + length es
      at-most base [] n e at = absurd at
      at-most base (x ∷ xs) n e (inl same) = let is = same.0 in omega arith
      at-most base (x ∷ xs) n e (inr deeper) = let r = at-most base xs n e deeper in omega arith

  pub is-commit : (K : Rule.DeskState values group) → Rule.IsOk values group K → (n : ℕ) (e : E) → HasNumberAt K.opening.base K.log n e → IsCommit values group K n e
  is-commit K ok n e at =
      let s = stands-at (Rule.geometry_of values group K) (Rule.start_of values group K.opening) K.opening.base K.log n e ok.legal at in
      record {
        does = subst (λ h. group.does (Rule.geometry_of values group K) (map_after (Rule.start_of values group K.opening) h) e) (sym s.before) s.does;
        placed = subst (λ h. group.placed (Rule.geometry_of values group K) (Rule.start_of values group K.opening) K.opening.base h e) (sym s.before) s.placed;
        next = ap (map_after (Rule.start_of values group K.opening)) s.with_it ∙ (after-numbered _ n (group.tx e) ∙ ap (λ h. after (map_after (Rule.start_of values group K.opening) h) (change_of (group.tx e))) (sym s.before));
      }

  reads-on : (o p : Opening PageCell Q R) (log newer es : List E) (e : E) → p ≡ o → log ≡ newer ++ es → group.asks (Rule.shape_of values group o) (map_after (Rule.start_of values group o) (hist o.base es)) e → group.asks (Rule.shape_of values group p) (map_after (Rule.start_of values group p) (upto (o.base + length es) (hist p.base log))) e
  reads-on o p log newer es e same is asks =
      subst (λ q. group.asks (Rule.shape_of values group q) (map_after (Rule.start_of values group q) (upto (o.base + length es) (hist q.base log))) e) (sym same)
      (subst (λ ts. group.asks (Rule.shape_of values group o) (map_after (Rule.start_of values group o) ts) e) (sym (ap (λ l. upto (o.base + length es) (hist o.base l)) is ∙ upto-hist o.base (o.base + length es) newer es refl)) asks)

  pub is-read : (K L : Rule.DeskState values group) (e : E) → Grows L K → Rule.Fits values group e L → IsRead values group K (newest L) e
  is-read K L e grows fits =
      let base : K.opening.base ≡ L.opening.base = ap (λ o. o.base) grows.opening in
      let long = ap length grows.log ∙ length-append grows.newer L.log in
      record {
        low = omega arith;
        high = omega arith;
        asks = reads-on L.opening K.opening K.log grows.newer L.log e grows.opening grows.log fits;
      }

  -- the map at the newest number is that of all transactions
  pub map-newest : (K : Rule.DeskState values group) → Rule.map_now values group K ≡ map_at values group K (newest K)
  map-newest K = ap (map_after (Rule.start_of values group K.opening)) (sym (upto-own K.opening.base (newest K) K.log refl))
