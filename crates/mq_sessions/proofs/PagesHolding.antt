-- What a session holds of pages, and what it knows of them.
use Rattle.std.proofs.Common.{◌≡◌, ◌≢◌, ℕ, zero, suc, ◌<◌, Bool, true, false, cond, List, [], ◌∷◌, ◌++◌, length, get_or, inl, inr, refl, sym, ap, subst, ◌∙◌, arith, Some}
use Rattle.std.specs.List.{All, AllZip}
use Rattle.std.proofs.lemmas.Bool.{cases_Bool}
use Rattle.mq_pages.specs.Held.{Cells, IsAboveLast, cell_of}
use Rattle.mq_pages.specs.declared.page.PageCell.{PageCell}
use Rattle.mq_pages.proofs.HeldCells.{rising-push}
use Rattle.mq_turns.specs.Chairs.{giving, holding}
use Rattle.mq_turns.specs.Desk.{IsTurn, Sees, Stands, refreshed, turn_at}
use Rattle.mq_turns.specs.Lists.{Each, times}
use Rattle.mq_turns.specs.Meaning.{AreLaws, Meaning}
use Rattle.mq_turns.specs.declared.rule.Known.{Known}
use Rattle.mq_turns.specs.declared.rule.Opening.{Opening}
use Rattle.mq_turns.specs.declared.rule.ChairView.{ChairView}
use Rattle.mq_turns.specs.declared.turn.Item.TheVariants as item
use Rattle.mq_turns.specs.declared.turn.Turn.TheVariants.{Page}
use Rattle.mq_turns.proofs.Lists.{each_append, each_both, each_map, each_without, hit, times_without_other}
use Rattle.mq_turns.proofs.Meaning.{stays_now}
use Rattle.mq_turns.proofs.DeskSeen.{stands_held}
use Rattle.mq_turns.proofs.DeskTurns.{times_refreshed}
use Rattle.mq_sessions.specs.Pages.{HoldsPage, HoldsPages, IsAfterStep, blocks_of}
use Rattle.mq_sessions.proofs.PagesLists.{above-last, each-block, each-cell, each-front, held-below, rising-front, rising-last}

module _ {Q R E : Type 0} (μ : Meaning PageCell Q R E) where
  -- ---- one page

  page-now : AreLaws μ → (o : Opening PageCell Q R) (v : ChairView PageCell Q R E) (K : Known PageCell Q R E) (b : ℕ) (c : PageCell) → v.opening ≡ Some o → HoldsPage μ o v b c → Sees μ v K → μ.page b K c
  page-now laws o v K b c opening h s = stands_held {M = ℕ} μ laws o (Page b) v (item.Page c) opening h.turn h.holds h.is K s

  page-beside : (o : Opening PageCell Q R) (v : ChairView PageCell Q R E) (b : ℕ) (c : PageCell) (k : ℕ) (K : Known PageCell Q R E) → b ≢ k → HoldsPage μ o v b c → HoldsPage μ o (holding k K v) b c
  page-beside o v b c k K other h = record {
    turn = h.turn;
    holds = let a = h.holds in omega arith;
    is = ((λ e. absurd (other (sym e))), h.is);
  }

  page-kept : (o : Opening PageCell Q R) (v : ChairView PageCell Q R E) (b : ℕ) (c : PageCell) (k : ℕ) → b ≢ k → HoldsPage μ o v b c → HoldsPage μ o (giving k v) b c
  page-kept o v b c k other h = record {
    turn = h.turn;
    holds = let a = h.holds in let same = times_without_other k b v.held other in omega arith;
    is = each_without (λ h. h.0 ≡ b → μ.page b h.1 c) k v.held h.is;
  }

  page-taken : (o : Opening PageCell Q R) (v : ChairView PageCell Q R E) (b : ℕ) (c : PageCell) (K : Known PageCell Q R E) → IsTurn o (Page b) → Each (λ h. h.0 < b) v.held → μ.page b K c → HoldsPage μ o (holding b K v) b c
  page-taken o v b c K mine low page = record {
    turn = mine;
    holds = let one = hit b b refl in omega arith;
    is = ((λ e. page), each_map (λ h. h.0 < b) (λ h. h.0 ≡ b → μ.page b h.1 c) (λ h l e. absurd (omega arith)) v.held low);
  }

  -- ---- all pages

  pub cells-now : AreLaws μ → (o : Opening PageCell Q R) (cells : Cells) (v : ChairView PageCell Q R E) (K : Known PageCell Q R E) (b : ℕ) (c : PageCell) → v.opening ≡ Some o → HoldsPages μ o cells v → Sees μ v K → cell_of cells b ≡ Some c → μ.page b K c
  cells-now laws o cells v K b c opening h s e = page-now laws o v K b c opening (each-cell (HoldsPage μ o v) cells b c h.each e) s

  pages-beside : (o : Opening PageCell Q R) (cells : Cells) (v : ChairView PageCell Q R E) (k : ℕ) (K : Known PageCell Q R E) → Each (λ x. x.0 ≢ k) cells → HoldsPages μ o cells v → HoldsPages μ o cells (holding k K v)
  pages-beside o cells v k K other h = record {
    rising = h.rising;
    each = each_both (λ x. x.0 ≢ k) (λ x. HoldsPage μ o v x.0 x.1) (λ x. HoldsPage μ o (holding k K v) x.0 x.1) (λ x ne p. page-beside o v x.0 x.1 k K ne p) cells other h.each;
  }

  pages-kept : (o : Opening PageCell Q R) (cells : Cells) (v : ChairView PageCell Q R E) (k : ℕ) → Each (λ x. x.0 ≢ k) cells → HoldsPages μ o cells v → HoldsPages μ o cells (giving k v)
  pages-kept o cells v k other h = record {
    rising = h.rising;
    each = each_both (λ x. x.0 ≢ k) (λ x. HoldsPage μ o v x.0 x.1) (λ x. HoldsPage μ o (giving k v) x.0 x.1) (λ x ne p. page-kept o v x.0 x.1 k ne p) cells other h.each;
  }

  pub pages-beside-all : (o : Opening PageCell Q R) (cells : Cells) (v : ChairView PageCell Q R E) (k : ℕ) (K : Known PageCell Q R E) → All (λ b. b ≢ k) (blocks_of cells) → HoldsPages μ o cells v → HoldsPages μ o cells (holding k K v)
  pages-beside-all o cells v k K other h = pages-beside o cells v k K (each-block (λ b. b ≢ k) cells other) h

  pub pages-kept-all : (o : Opening PageCell Q R) (cells : Cells) (v : ChairView PageCell Q R E) (k : ℕ) → All (λ b. b ≢ k) (blocks_of cells) → HoldsPages μ o cells v → HoldsPages μ o cells (giving k v)
  pages-kept-all o cells v k other h = pages-kept o cells v k (each-block (λ b. b ≢ k) cells other) h

  -- ---- a step about other turns

  renewed-still : (about : ℕ → Bool) (L : Known PageCell Q R E) (b : ℕ) (c : PageCell) (l : List (ℕ × Known PageCell Q R E)) → about b ≡ false → Each (λ h. h.0 ≡ b → μ.page b h.1 c) l → Each (λ h. h.0 ≡ b → μ.page b h.1 c) (refreshed about L l)
  renewed-still about L b c [] apart is = tt
  renewed-still about L b c (h ∷ hs) apart is = (
    λ e. subst (λ (N : Known PageCell Q R E). μ.page b N c) (sym (ap (λ (t : Bool). cond t L h.1) (ap about e ∙ apart))) (is.0 e),
    renewed-still about L b c hs apart is.1,
  )

  page-renewed : (o : Opening PageCell Q R) (v w : ChairView PageCell Q R E) (b : ℕ) (c : PageCell) (about : ℕ → Bool) (L : Known PageCell Q R E) → about b ≡ false → w.held ≡ refreshed about L v.held → HoldsPage μ o v b c → HoldsPage μ o w b c
  page-renewed o v w b c about L apart is h = record {
    turn = h.turn;
    holds = let a = h.holds in let same = times_refreshed about L b v.held in let all = ap (times b) is in omega arith;
    is = subst (Each (λ h. h.0 ≡ b → μ.page b h.1 c)) (sym is) (renewed-still about L b c v.held apart h.is);
  }

  pub pages-renewed : (o : Opening PageCell Q R) (cells : Cells) (v w : ChairView PageCell Q R E) (about : ℕ → Bool) (L : Known PageCell Q R E) → All (λ b. about b ≡ false) (blocks_of cells) → w.held ≡ refreshed about L v.held → HoldsPages μ o cells v → HoldsPages μ o cells w
  pages-renewed o cells v w about L apart is h = record {
    rising = h.rising;
    each = each_both (λ x. about x.0 ≡ false) (λ x. HoldsPage μ o v x.0 x.1) (λ x. HoldsPage μ o w x.0 x.1) (λ x off p. page-renewed o v w x.0 x.1 about L off is p) cells (each-block (λ b. about b ≡ false) cells apart) h.each;
  }

  -- ---- a step about pages that are held

  renewed-page : (about : ℕ → Bool) (L : Known PageCell Q R E) (b : ℕ) (c : PageCell) (l : List (ℕ × Known PageCell Q R E)) → about b ≡ true → μ.page b L c → Each (λ h. h.0 ≡ b → μ.page b h.1 c) (refreshed about L l)
  renewed-page about L b c [] mine page = tt
  renewed-page about L b c (h ∷ hs) mine page = (
    λ e. subst (λ (N : Known PageCell Q R E). μ.page b N c) (sym (ap (λ (t : Bool). cond t L h.1) (ap about e ∙ mine))) page,
    renewed-page about L b c hs mine page,
  )

  page-about : (o : Opening PageCell Q R) (v w : ChairView PageCell Q R E) (b : ℕ) (old new : PageCell) (about : ℕ → Bool) (L : Known PageCell Q R E) → about b ≡ true → μ.page b L new → w.held ≡ refreshed about L v.held → HoldsPage μ o v b old → HoldsPage μ o w b new
  page-about o v w b old new about L mine page is h = record {
    turn = h.turn;
    holds = let a = h.holds in let same = times_refreshed about L b v.held in let all = ap (times b) is in omega arith;
    is = subst (Each (λ h. h.0 ≡ b → μ.page b h.1 new)) (sym is) (renewed-page about L b new v.held mine page);
  }

  page-after : (o : Opening PageCell Q R) (v w : ChairView PageCell Q R E) (about : ℕ → Bool) (L : Known PageCell Q R E) (x y : ℕ × PageCell) → IsAfterStep μ about L x y → w.held ≡ refreshed about L v.held → HoldsPage μ o v x.0 x.1 → HoldsPage μ o w y.0 y.1
  page-after o v w about L x y a is h = subst (λ (n : ℕ). HoldsPage μ o w n y.1) (sym a.block) (elim (cases_Bool (about x.0)) [
    | inl mine ↦ page-about o v w x.0 x.1 y.1 about L mine (a.about_it mine) is h
    | inr other ↦ subst (λ (c : PageCell). HoldsPage μ o w x.0 c) (sym (a.about_others other)) (page-renewed o v w x.0 x.1 about L other is h)
  ])

  each-after : (o : Opening PageCell Q R) (cells new : Cells) (v w : ChairView PageCell Q R E) (about : ℕ → Bool) (L : Known PageCell Q R E) → AllZip (IsAfterStep μ about L) cells new → w.held ≡ refreshed about L v.held → Each (λ x. HoldsPage μ o v x.0 x.1) cells → Each (λ x. HoldsPage μ o w x.0 x.1) new
  each-after o [] [] v w about L zip is h = tt
  each-after o [] (y ∷ ys) v w about L zip is h = absurd zip
  each-after o (x ∷ xs) [] v w about L zip is h = absurd zip
  each-after o (x ∷ xs) (y ∷ ys) v w about L zip is h = (page-after o v w about L x y zip.0 is h.0, each-after o xs ys v w about L zip.1 is h.1)

  zip-length : (about : ℕ → Bool) (L : Known PageCell Q R E) (xs ys : Cells) → AllZip (IsAfterStep μ about L) xs ys → length ys ≡ length xs
  zip-length about L [] [] zip = refl
  zip-length about L [] (y ∷ ys) zip = absurd zip
  zip-length about L (x ∷ xs) [] zip = absurd zip
  zip-length about L (x ∷ xs) (y ∷ ys) zip = let rest = zip-length about L xs ys zip.1 in omega arith

  zip-block : (about : ℕ → Bool) (L : Known PageCell Q R E) (xs ys : Cells) → AllZip (IsAfterStep μ about L) xs ys → (i : ℕ) (d : ℕ × PageCell) → i < length xs → (get_or ys i d).0 ≡ (get_or xs i d).0
  zip-block about L [] [] zip i d l = refl
  zip-block about L [] (y ∷ ys) zip i d l = absurd zip
  zip-block about L (x ∷ xs) [] zip i d l = absurd zip
  zip-block about L (x ∷ xs) (y ∷ ys) zip zero d l = zip.0.block
  zip-block about L (x ∷ xs) (y ∷ ys) zip (suc i) d l = zip-block about L xs ys zip.1 i d (omega arith)

  pub pages-after : (o : Opening PageCell Q R) (cells new : Cells) (v w : ChairView PageCell Q R E) (about : ℕ → Bool) (L : Known PageCell Q R E) → AllZip (IsAfterStep μ about L) cells new → w.held ≡ refreshed about L v.held → HoldsPages μ o cells v → HoldsPages μ o new w
  pages-after o cells new v w about L zip is h = record {
    rising = λ i j d lt l.
        let long = zip-length about L cells new zip in
        let a = zip-block about L cells new zip i d (omega arith) in
        let b = zip-block about L cells new zip j d (omega arith) in
        let up = h.rising i j d lt (omega arith) in
        omega arith;
    each = each-after o cells new v w about L zip is h.each;
  }

  -- ---- a page above all that is held

  -- the blocks of the cells are below it
  pub cells-low : (o : Opening PageCell Q R) (cells : Cells) (v : ChairView PageCell Q R E) (b : ℕ) → HoldsPages μ o cells v → Each (λ h. h.0 < b) v.held → Each (λ x. x.0 < b) cells
  cells-low o cells v b h low = each_map (λ x. HoldsPage μ o v x.0 x.1) (λ x. x.0 < b) (λ x p. held-below x.0 b v.held p.holds low) cells h.each

  pub cells-above : (o : Opening PageCell Q R) (cells : Cells) (v : ChairView PageCell Q R E) (b : ℕ) → HoldsPages μ o cells v → Each (λ h. h.0 < b) v.held → IsAboveLast b cells
  cells-above o cells v b h low = above-last b cells (cells-low o cells v b h low)

  pub pages-taken : (o : Opening PageCell Q R) (cells : Cells) (v : ChairView PageCell Q R E) (b : ℕ) (c : PageCell) (K : Known PageCell Q R E) → IsTurn o (Page b) → Each (λ h. h.0 < b) v.held → μ.page b K c → HoldsPages μ o cells v → HoldsPages μ o (cells ++ (b, c) ∷ []) (holding b K v)
  pages-taken o cells v b c K mine low page h =
      let under = cells-low o cells v b h low in
      let beside = pages-beside o cells v b K (each_map (λ x. x.0 < b) (λ x. x.0 ≢ b) (λ x l e. omega arith) cells under) h in
      record {
        rising = rising-push b c cells h.rising (above-last b cells under);
        each = each_append (λ x. HoldsPage μ o (holding b K v) x.0 x.1) cells ((b, c) ∷ []) beside.each (page-taken o v b c K mine low page, tt);
      }

  -- ---- the last page

  pub record IsLast (o : Opening PageCell Q R) (cells : Cells) (v : ChairView PageCell Q R E) (b : ℕ) (c : PageCell) : Type 0 where
    pub page : HoldsPage μ o v b c
    pub rest : HoldsPages μ o cells (giving b v)

  pub last-page : (o : Opening PageCell Q R) (old cells : Cells) (v : ChairView PageCell Q R E) (b : ℕ) (c : PageCell) → old ≡ cells ++ (b, c) ∷ [] → HoldsPages μ o old v → IsLast o cells v b c
  last-page o old cells v b c e held =
      let h = subst (λ (xs : Cells). HoldsPages μ o xs v) e held in
      let parts = each-front (λ x. HoldsPage μ o v x.0 x.1) cells ((b, c) ∷ []) h.each in
      let front : HoldsPages μ o cells v = record { rising = rising-front (b, c) cells h.rising; each = parts.0 } in
      let other = each_map (λ x. x.0 < b) (λ x. x.0 ≢ b) (λ x l same. omega arith) cells (rising-last (b, c) cells h.rising) in
      record { page = parts.1.0; rest = pages-kept o cells v b other front }

  pub last-stands : AreLaws μ → (M : Type 0) (o : Opening PageCell Q R) (cells : Cells) (v : ChairView PageCell Q R E) (b : ℕ) (c : PageCell) → v.opening ≡ Some o → IsLast o cells v b c → (K : Known PageCell Q R E) → Sees μ v K → Stands {M = M} μ (Page b) K (item.Page c)
  last-stands laws M o cells v b c opening last K s = page-now laws o v K b c opening last.page s

  -- ---- what is seen

  pub sees-taken : (k : ℕ) (K : Known PageCell Q R E) (v : ChairView PageCell Q R E) → Sees μ v K → Sees μ (holding k K v) K
  sees-taken k K v s = record {
    opening = s.opening;
    ok = s.ok;
    few = s.few;
    held = ((s.ok, stays_now μ.touches μ.lies (turn_at K.opening k) K), s.held);
    seen = s.seen;
    drew = s.drew;
    marked = s.marked;
    reader = s.reader;
    own = s.own;
  }
