-- Pages of further blocks, for a session that holds those of the wanted ones.
use Rattle.std.proofs.Common.{◌≡◌, ◌⊎◌, ℕ, ◌+◌, ◌<◌, ◌≤◌, List, [], ◌∷◌, ◌++◌, length, get_or, refl, sym, ap, subst, ◌∙◌, inl, inr, arith}
use Rattle.std.specs.Prelude.{None}
use Rattle.std.specs.List.{All, AllPairs, Contains}
use Rattle.std.proofs.lemmas.Bool.{cases_eq}
use Rattle.std.proofs.lemmas.List.{map-append}
use Rattle.std.proofs.lemmas.List.Elements.{All-contains, Contains-append_cases, Contains-append_left, Contains-append_right, Contains-get_or}
use Rattle.mq_journal.specs.Laws.{without_each}
use Rattle.mq_pages.specs.Held.{Cells, IsRising}
use Rattle.mq_pages.specs.declared.page.PageCell.{PageCell}
use Rattle.mq_turns.specs.Desk.{Sees, Stay, after_look, turn_at}
use Rattle.mq_turns.specs.Lists.{Each, times}
use Rattle.mq_turns.specs.Meaning.{Meaning, newest}
use Rattle.mq_turns.specs.declared.rule.Known.{Known}
use Rattle.mq_turns.specs.declared.rule.Opening.{Opening}
use Rattle.mq_turns.specs.declared.rule.ChairView.{ChairView}
use Rattle.mq_turns.proofs.Lists.{each_map, each_without, times_append}
use Rattle.mq_sessions.specs.Pages.{AddsCells, HoldsOnlyPages, HoldsPage, HoldsPages, TakesPages, blocks_of, giving_pages, taking_pages}
use Rattle.mq_sessions.specs.Wanted.{AreTogether, AreWanted, HoldsWanted, IsSameSession}
use Rattle.mq_sessions.proofs.PagesCounting.{all-given, cells-few, rising-few, times-contains, times-taken}
use Rattle.mq_sessions.proofs.PagesHolding.{cells-low}
use Rattle.mq_sessions.proofs.PagesLists.{held-all, none-held}

-- ---- blocks

-- all of a list are together with none
pub alone : (homes : ℕ) (blocks : List ℕ) → AreWanted homes blocks → AreTogether [] blocks blocks
alone homes blocks w = record { rise = w.rise; first = λ b c. (let l = c.1 in absurd (omega arith)); second = λ b c. c; only = λ b c. inr c }

-- those of both lists are home blocks
pub together-wanted : (homes : ℕ) (old more new : List ℕ) → AreWanted homes old → AreWanted homes more → AreTogether old more new → AreWanted homes new
together-wanted homes old more new a b t = record { rise = t.rise; homes_are = below }
  where
    of : (n : ℕ) → Contains old n ⊎ Contains more n → n < homes
    of n (inl c) = All-contains (λ x. x < homes) old n a.homes_are c
    of n (inr c) = All-contains (λ x. x < homes) more n b.homes_are c

    below : All (λ n. n < homes) new
    below k d l = of (get_or new k d) (t.only (get_or new k d) (Contains-get_or new k d l))

each-zero : (cells : Cells) → Each (λ c. 0 ≤ c.0) cells
each-zero [] = tt
each-zero (c ∷ cs) = (omega arith, each-zero cs)

first-below : (b : ℕ) (bs : List ℕ) → AllPairs (λ x y. x < y) (b ∷ bs) → All (λ x. b ≤ x) (b ∷ bs)
first-below b bs rise k d l = elim (cases_eq k 0) [
  | inl zeroth ↦ let here : get_or (b ∷ bs) k d ≡ b = ap (λ (n : ℕ). get_or (b ∷ bs) n d) zeroth in omega arith
  | inr other ↦ let up : b < get_or (b ∷ bs) k d = rise 0 k d (omega arith) l in omega arith
]

pub room-alone : (homes : ℕ) (blocks : List ℕ) → AreWanted homes blocks → length blocks ≤ homes
room-alone homes blocks w = let few = rising-few 0 homes blocks w.rise (λ k d l. omega arith) w.homes_are (omega arith) in omega arith

module _ {Q R E : Type 0} where
  -- ---- what stays of a session

  pub same-at-once : (v : ChairView PageCell Q R E) → IsSameSession v v
  same-at-once v = record { is = refl; seen = omega arith }

  pub same-then : (a b c : ChairView PageCell Q R E) → IsSameSession a b → IsSameSession b c → IsSameSession a c
  same-then a b c first second = record {
    is = second.is ∙ ap (λ (x : ChairView PageCell Q R E). record x { seen = c.seen; hand = c.hand; held = c.held }) first.is;
    seen = let low = first.seen in let high = second.seen in omega arith;
  }

  pub same-taken : (v w : ChairView PageCell Q R E) (taken : List (ℕ × Known PageCell Q R E)) → w ≡ taking_pages taken v → IsSameSession v w
  same-taken v w taken is = subst (λ (x : ChairView PageCell Q R E). IsSameSession v x) (sym is) (record { is = refl; seen = omega arith })

  pub same-given : (v w : ChairView PageCell Q R E) (blocks : List ℕ) → w ≡ giving_pages blocks v → IsSameSession v w
  same-given v w blocks is = subst (λ (x : ChairView PageCell Q R E). IsSameSession v x) (sym is) (record { is = refl; seen = omega arith })

  -- at a look that reads no entry
  pub same-looked : (v w : ChairView PageCell Q R E) (K : Known PageCell Q R E) → w ≡ after_look None K v → v.seen ≤ newest K → IsSameSession v w
  same-looked v w K is low = subst (λ (x : ChairView PageCell Q R E). IsSameSession v x) (sym is) (record { is = refl; seen = low })

module _ {Q R E : Type 0} (μ : Meaning PageCell Q R E) where
  -- ---- what is held

  -- a block above all wanted ones is above all that is held
  pub held-low : (o : Opening PageCell Q R) (wanted : List ℕ) (cells : Cells) (v : ChairView PageCell Q R E) (b : ℕ) → HoldsWanted μ o wanted cells v → All (λ a. a < b) wanted → Each (λ h. h.0 < b) v.held
  held-low o wanted cells v b h low = held-all (λ k. k < b) v.held v.held (λ k some. All-contains (λ a. a < b) wanted k low ((h.blocks k).1 (times-contains k cells (let e = h.pages.only k in omega arith)))) (λ k. omega arith)

  pub held-low-all : (o : Opening PageCell Q R) (wanted blocks : List ℕ) (cells : Cells) (v : ChairView PageCell Q R E) → HoldsWanted μ o wanted cells v → All (λ b. All (λ a. a < b) wanted) blocks → All (λ b. Each (λ h. h.0 < b) v.held) blocks
  held-low-all o wanted blocks cells v h low k d l = held-low o wanted cells v (get_or blocks k d) h (low k d l)

  pub more-held : (o : Opening PageCell Q R) (old more new : List ℕ) (before cells : Cells) (v w : ChairView PageCell Q R E) → HoldsWanted μ o old before v → TakesPages μ more v w → HoldsPages μ o cells w → AddsCells more before cells → AreTogether old more new → HoldsWanted μ o new cells w
  more-held o old more new before cells v w h took pages adds t = record {
    pages = record { pages = pages; only = only };
    blocks = λ b. (λ c. subst (λ (xs : List ℕ). Contains xs b) (sym are) (into b (t.only b c)), λ c. back b (Contains-append_cases (blocks_of before) more b (subst (λ (xs : List ℕ). Contains xs b) are c)));
    seen = took.seen h.seen;
  }
    where
      are : blocks_of cells ≡ blocks_of before ++ more
      are = ap blocks_of adds.is ∙ (map-append (λ (x : ℕ × PageCell). x.0) before adds.added ∙ ap (λ (xs : List ℕ). blocks_of before ++ xs) adds.blocks_are)

      into : (b : ℕ) → Contains old b ⊎ Contains more b → Contains (blocks_of before ++ more) b
      into b (inl c) = Contains-append_left (blocks_of before) more b ((h.blocks b).0 c)
      into b (inr c) = Contains-append_right (blocks_of before) more b c

      back : (b : ℕ) → Contains (blocks_of before) b ⊎ Contains more b → Contains new b
      back b (inl c) = t.first b ((h.blocks b).1 c)
      back b (inr c) = t.second b c

      only : (k : ℕ) → times k w.held ≡ times k cells
      only k =
          let held : times k w.held ≡ times k (took.taken ++ v.held) = ap (λ (x : ChairView PageCell Q R E). times k x.held) took.is in
          let parts = times_append k took.taken v.held in
          let fresh = times-taken k took.taken adds.added more took.slots adds.blocks_are in
          let all : times k cells ≡ times k (before ++ adds.added) = ap (times k) adds.is in
          let both = times_append k before adds.added in
          let was = h.pages.only k in
          omega arith

  -- ---- room

  pub cells-below : (o : Opening PageCell Q R) (cells : Cells) (v : ChairView PageCell Q R E) → HoldsPages μ o cells v → Each (λ c. c.0 < length o.pages) cells
  cells-below o cells v h = each_map (λ x. HoldsPage μ o v x.0 x.1) (λ x. x.0 < length o.pages) (λ x p. p.turn) cells h.each

  -- blocks above all that is held fit beside it
  pub room-above : (o : Opening PageCell Q R) (blocks : List ℕ) (cells : Cells) (v : ChairView PageCell Q R E) → HoldsPages μ o cells v → AreWanted (length o.pages) blocks → All (λ b. Each (λ h. h.0 < b) v.held) blocks → length cells + length blocks ≤ length o.pages
  room-above o [] cells v h w above = let few = cells-few 0 (length o.pages) cells h.rising (each-zero cells) (cells-below o cells v h) (omega arith) in omega arith
  room-above o (b ∷ bs) cells v h w above =
      let low = above 0 b (omega arith) in
      let top = w.homes_are 0 b (omega arith) in
      let under = cells-few 0 b cells h.rising (each-zero cells) (cells-low μ o cells v b h low) (omega arith) in
      let over = rising-few b (length o.pages) (b ∷ bs) w.rise (first-below b bs w.rise) w.homes_are (omega arith) in
      omega arith

  -- ---- all is given back

  each-without_each : (F : ℕ × Known PageCell Q R E → Type 0) (ks : List ℕ) (l : List (ℕ × Known PageCell Q R E)) → Each F l → Each F (without_each ks l)
  each-without_each F [] l all = all
  each-without_each F (k ∷ ks) l all = each_without F k (without_each ks l) (each-without_each F ks l all)

  pub sees-given : (blocks : List ℕ) (K : Known PageCell Q R E) (v : ChairView PageCell Q R E) → Sees μ v K → Sees μ (giving_pages blocks v) K
  sees-given blocks K v s = record {
    opening = s.opening;
    ok = s.ok;
    few = s.few;
    held = each-without_each (λ h. μ.ok h.1 × Stay μ (turn_at K.opening h.0) h.1 K) blocks v.held s.held;
    seen = s.seen;
    drew = s.drew;
    marked = s.marked;
    reader = s.reader;
    own = s.own;
  }

  none-rises : IsRising []
  none-rises = λ i j d lt l. absurd (omega arith)

  pub nothing-held : (o : Opening PageCell Q R) (wanted : List ℕ) (before cells : Cells) (v w : ChairView PageCell Q R E) → HoldsWanted μ o wanted before v → cells ≡ [] → w ≡ giving_pages (blocks_of before) v → HoldsWanted μ o [] cells w
  nothing-held o wanted before cells v w h none is = subst (λ (cs : Cells). HoldsWanted μ o [] cs w) (sym none) (subst (λ (x : ChairView PageCell Q R E). HoldsWanted μ o [] [] x) (sym is) (record {
    pages = record {
      pages = record { rising = none-rises; each = tt };
      only = all-given before v.held h.pages.only;
    };
    blocks = λ b. (λ c. c, λ c. c);
    seen = (h.seen.0, sees-given (blocks_of before) h.seen.0 v h.seen.1);
  }))

  -- a look, with nothing held
  pub looked-none : (o : Opening PageCell Q R) (cells : Cells) (v w : ChairView PageCell Q R E) (K : Known PageCell Q R E) → v.held ≡ [] → cells ≡ [] → w ≡ after_look None K v → Sees μ v K → HoldsWanted μ o [] cells w
  looked-none o cells v w K none empty is s = subst (λ (cs : Cells). HoldsWanted μ o [] cs w) (sym empty) (subst (λ (x : ChairView PageCell Q R E). HoldsWanted μ o [] [] x) (sym is) (record {
    pages = record {
      pages = record { rising = none-rises; each = tt };
      only = λ k. ap (times k) none;
    };
    blocks = λ b. (λ c. c, λ c. c);
    seen = (K, record { opening = s.opening; ok = s.ok; few = s.few; held = s.held; seen = omega arith; drew = s.drew; marked = s.marked; reader = s.reader; own = s.own });
  }))

  pub held-none : (o : Opening PageCell Q R) (cells : Cells) (v : ChairView PageCell Q R E) → HoldsOnlyPages μ o cells v → cells ≡ [] → v.held ≡ []
  held-none o cells v h none = none-held v.held (λ k. h.only k ∙ ap (times k) none)
