-- Each kind of step on a fuse keeps its rule.
use Rattle.std.proofs.Common.{◌≡◌, ◌≢◌, ⊎_elim, ℕ, zero, suc, ◌+◌, ◌-◌, ◌%◌, ◌^◌, ◌<◌, ◌≤◌, min, List, [], ◌∷◌, ◌++◌, inl, inr, sym, refl, ap, ◌∙◌, subst, arith, ltb, get_or, set, mod-eq_of_lt}
use Rattle.std.proofs.lemmas.Bool.{cases_lt, cases_eq}
use mathlib.Core.Option.{none, some, some-injective, some-ne-none}
use lib.ListN.{get_elem?}
use Rattle.atomic_table.specs.Table.{State, Me, step, keeps, Allows, Splits, Joins, opening, Final, Seen}
use Rattle.atomic_table.proofs.Lists.{at_set, set_else, at_snoc}
use Rattle.mq_blocks.specs.Totals.{total}
use Rattle.mq_drive.specs.Fuse.{tick, times, below, above, fresh, joined, Fits, Lawful, drew}
use Rattle.mq_drive.specs.declared.tickets.Tickets.{Tickets}
use Rattle.mq_blocks.proofs.Totals.{total_set, total_one, total_two, total_append, total_le, total_only, total_pair, total_sum}
use Rattle.mq_drive.proofs.FuseCounts.{tick_lt, tick_ge, tick_eq, tick_ne, times-append, above-append, below_first, above_first, below_few, total_below, below_whole, above_some}

views_stay : (K : Tickets → Type 0) (vs : List Tickets) (id : ℕ) (w : Tickets) → K w → ((j : ℕ) (u : Tickets) → get_elem? vs j ≡ some u → K u) → (j : ℕ) (u : Tickets) → get_elem? (set vs id w) j ≡ some u → K u
views_stay K vs id w mine others j u e = ⊎_elim (λ (t : (j ≡ id) × (w ≡ u)). subst K t.1 mine) (λ (t : (j ≢ id) × (get_elem? vs j ≡ some u)). others j u t.1) (at_set vs id j w u e)

-- a table at its start
pub opens : (limit seats : ℕ) → 0 < seats → limit ≤ 2 ^ 63 → seats < 2 ^ 32 → Lawful limit seats (opening (0 ∷ []) [] (fresh seats))
opens limit seats one low few = record {
  one_word = (0, refl);
  once = λ t. let e = tick_ge t 0 (omega arith) in omega arith;
  whole = omega arith;
  each = each_first;
  small = (low, few);
} where
  each_first : (j : ℕ) (v : Tickets) → get_elem? (fresh seats ∷ []) j ≡ some v → Fits limit v
  each_first zero v at = subst (Fits limit) (some-injective (fresh seats) v at) (record { few = omega arith; idle = λ z. refl })
  each_first (suc j) v at = absurd (some-ne-none v (sym at))

-- the counter is at most the limit and one more for each seat
bounded : (limit seats : ℕ) (s : State (Unit {0}) Tickets) → Lawful limit seats s → get_or s.words 0 0 ≤ limit + seats
bounded limit seats s r =
    let n : ℕ = get_or s.words 0 0 in
    let all = total_below n s.views r.once n in
    let low = total_below n s.views r.once limit in
    let whole = r.whole in
    let parts = total_le (λ v. below n v.drawn) (λ v. below limit v.drawn + v.seats) s.views
    (λ i v at. let w = below_whole n limit v.drawn in let f = (r.each i v at).few in omega arith) in
    let sum = total_sum (λ (v : Tickets). below limit v.drawn) (λ v. v.seats) (λ v. below limit v.drawn + v.seats) s.views (λ v. refl) in
    omega arith

-- one more ticket: the counter's
once_more : (n t : ℕ) (vs : List Tickets) (id : ℕ) (v : Tickets) → get_elem? vs id ≡ some v → ((u : ℕ) → total (λ v. times u v.drawn) vs ≡ tick (ltb u n))
    → total (λ v. times t v.drawn) (set vs id record { seats = v.seats; drawn = n ∷ v.drawn }) ≡ tick (ltb t (suc n))
once_more n t vs id v at once =
    let w : Tickets = record { seats = v.seats; drawn = n ∷ v.drawn } in
    let change = total_set (λ u. times t u.drawn) vs id v w at in
    let was = once t in
    ⊎_elim
    (λ (e : n ≡ t). let a = tick_eq n t e in let b = tick_ge t n (omega arith) in let c = tick_lt t (suc n) (omega arith) in omega arith)
    (λ (ne : n ≢ t).
    let a = tick_ne n t ne in
    elim (cases_lt t n) [
      | inl low ↦ let b = tick_lt t n low in let c = tick_lt t (suc n) (omega arith) in omega arith
      | inr high ↦ let more : n < t = omega arith in let b = tick_ge t n high in let c = tick_ge t (suc n) (omega arith) in omega arith
    ])
    (cases_eq n t)

-- a ticket that was drawn by one seat is below the counter
is_below : (n : ℕ) (vs : List Tickets) (id : ℕ) (v : Tickets) → get_elem? vs id ≡ some v → ((u : ℕ) → total (λ v. times u v.drawn) vs ≡ tick (ltb u n)) → (t : ℕ) → times t v.drawn ≤ tick (ltb t n)
is_below n vs id v at once t = let one = total_one (λ u. times t u.drawn) vs id v at in let is = once t in omega arith

-- none of a seat's tickets stands twice, with the one that it draws
one_each : (n : ℕ) (vs : List Tickets) (id : ℕ) (v : Tickets) → get_elem? vs id ≡ some v → ((u : ℕ) → total (λ v. times u v.drawn) vs ≡ tick (ltb u n)) → (t : ℕ) → times t (n ∷ v.drawn) ≤ 1
one_each n vs id v at once t =
    let few = is_below n vs id v at once t in
    ⊎_elim
    (λ (e : n ≡ t). let a = tick_eq n t e in let b = tick_ge t n (omega arith) in omega arith)
    (λ (ne : n ≢ t). let a = tick_ne n t ne in
    elim (cases_lt t n) [
      | inl low ↦ let b = tick_lt t n low in omega arith
      | inr high ↦ let b = tick_ge t n high in omega arith
    ])
    (cases_eq n t)

first_word : (ws : List ℕ) (n m : ℕ) → ws ≡ n ∷ [] → set ws 0 m ≡ m ∷ []
first_word ws n m is = ap (λ (l : List ℕ). set l 0 m) is

-- a ticket is drawn by a seat whose tickets are all below the limit
pub draws : (limit seats slots id : ℕ) (me : Me (Unit {0}) Tickets) → me.0.seats ≡ 1 → above limit me.0.drawn ≡ 0
    → Allows (Lawful limit seats) slots id me 0 (λ n. (n + 1) % 2 ^ 64) (drew (step slots 0 1 0 none) me)
draws limit seats slots id me one none_above s r deep at fits =
    let n : ℕ = get_or s.words 0 0 in
    let v : Tickets = me.0 in
    let w : Tickets = record { seats = v.seats; drawn = n ∷ v.drawn } in
    let most = bounded limit seats s r in
    let low = r.small.0 in
    let few = r.small.1 in
    let wrapped : (n + 1) % 2 ^ 64 ≡ suc n = mod-eq_of_lt (omega arith) ∙ omega arith in
    let word : set s.words 0 (suc n) ≡ suc n ∷ [] = first_word s.words r.one_word.0 (suc n) r.one_word.1 in
    let sized : above limit w.drawn ≤ w.seats = elim (cases_lt n limit) [
      | inl under ↦ let a = (below_first limit n v.drawn under).1 in omega arith
      | inr over ↦ let a = (above_first limit n v.drawn over).1 in omega arith
    ] in (
      w,
      keeps,
      tt,
      subst (λ (i : ℕ). Lawful limit seats record { words = set s.words 0 i; homes = s.homes; views = set s.views id w }) (sym wrapped) record {
        one_word = (suc n, word);
        once = λ t. once_more n t s.views id v at r.once ∙ ap (λ (l : List ℕ). tick (ltb t (get_or l 0 0))) (sym word);
        whole = let e = total_set (λ u. u.seats) s.views id v w at in let whole = r.whole in omega arith;
        each = views_stay (Fits limit) s.views id w (record { few = sized; idle = λ z. absurd (omega (arith, one, z)) }) r.each;
        small = r.small;
      },
      (refl, below_few w.drawn (one_each n s.views id v at r.once)),
    )

-- a seat is cut from those that have drawn nothing
pub splits : (limit seats id : ℕ) (v : Tickets) → 1 < v.seats → v.drawn ≡ [] → Splits (Lawful limit seats) id v (record { seats = v.seats - 1; drawn = v.drawn }) (fresh 1)
splits limit seats id v more none_drawn s r at =
    let w : Tickets = record { seats = v.seats - 1; drawn = v.drawn } in
    let sum : (f : Tickets → ℕ) → f w + f (fresh 1) ≡ f v → total f (set s.views id w ++ fresh 1 ∷ []) ≡ total f s.views =
    λ f e. (let a = total_append f (set s.views id w) (fresh 1 ∷ []) in let b = total_set f s.views id v w at in omega arith) in
    let few : above limit v.drawn ≡ 0 = ap (above limit) none_drawn in
    record {
      one_word = r.one_word;
      once = λ t. sum (λ u. times t u.drawn) (omega arith) ∙ r.once t;
      whole = sum (λ u. u.seats) (omega arith) ∙ r.whole;
      each = λ j u e. ⊎_elim
          (λ (x : get_elem? (set s.views id w) j ≡ some u). views_stay (Fits limit) s.views id w (record { few = omega arith; idle = λ z. none_drawn }) r.each j u x)
          (λ (x : fresh 1 ≡ u). subst (Fits limit) x (record { few = omega arith; idle = λ z. refl }))
          (at_snoc (set s.views id w) (fresh 1) u j e);
      small = r.small;
    }

-- two seats become one
pub joins : (limit seats id : ℕ) (v : Tickets) (other : ℕ) (w : Tickets) → Joins (Lawful limit seats) id v other w (joined v w) (fresh 0)
joins limit seats id v other w s r at apart there =
    let b : Tickets = joined v w in
    let was : get_elem? s.views other ≡ some w = sym (set_else s.views id other b apart) ∙ there in
    let same : (f : Tickets → ℕ) → f b + f (fresh 0) ≡ f v + f w → total f (set (set s.views id b) other (fresh 0)) ≡ total f s.views =
    λ f e. total_pair f s.views id other v b w (fresh 0) at there e in
    let mine = r.each id v at in
    let theirs = r.each other w was in
    let both : Fits limit b = record {
      few = let e = above-append limit v.drawn w.drawn in let m = mine.few in let t = theirs.few in omega arith;
      idle = λ z. ap (λ (l : List ℕ). l ++ w.drawn) (mine.idle (omega (arith, z))) ∙ theirs.idle (omega (arith, z));
    } in
    record {
      one_word = r.one_word;
      once = λ t. same (λ u. times t u.drawn) (let e = times-append t v.drawn w.drawn in omega arith) ∙ r.once t;
      whole = same (λ u. u.seats) (omega arith) ∙ r.whole;
      each = views_stay (Fits limit) (set s.views id b) other (fresh 0) (record { few = omega arith; idle = λ z. refl }) (views_stay (Fits limit) s.views id b both r.each);
      small = r.small;
    }

-- a fuse whose seats are all one: how many tickets were drawn, and what the seat's tickets say of it
pub ends : (limit seats id : ℕ) (v : Tickets) (ws : List ℕ) (xs : List (Unit {0})) (n : ℕ) → Final (Seen (Lawful limit seats) id v) ws xs → v.seats ≡ seats → get_elem? ws 0 ≡ some n
    → (below limit v.drawn ≡ min limit n) × (0 < above limit v.drawn → limit < n)
ends limit seats id v ws xs n (s, seen, words, slots, home) all read =
    let r = seen.0 in
    let at = seen.1 in
    let k : ℕ = r.one_word.0 in
    let is : s.words ≡ k ∷ [] = r.one_word.1 in
    let now : k ≡ n = some-injective k n (sym (ap (λ (l : List ℕ). get_elem? l 0) (sym words ∙ is)) ∙ read) in
    let once : (t : ℕ) → total (λ u. times t u.drawn) s.views ≡ tick (ltb t n) = λ t. r.once t ∙ ap (λ (i : ℕ). tick (ltb t i)) (ap (λ (l : List ℕ). get_or l 0 0) is ∙ now) in
    let others : (j : ℕ) (u : Tickets) → j ≢ id → get_elem? s.views j ≡ some u → u.drawn ≡ [] =
    λ j u ne o. (r.each j u o).idle (let t = total_two (λ x. x.seats) s.views id j v u at o ne in let w = r.whole in omega arith) in
    let mine = total_only (λ u. below limit u.drawn) s.views id v at (λ j u ne o. ap (below limit) (others j u ne o)) in
    let low = total_below n s.views once limit in (
      omega arith,
      λ over.
          let t = above_some limit v.drawn over in
          let few = is_below n s.views id v at once t.0 in
          elim (cases_lt t.0 n) [
            | inl under ↦ let a = t.1 in omega arith
            | inr beyond ↦ let a = tick_ge t.0 n beyond in let b = t.2 in absurd (omega arith)
          ],
    )
