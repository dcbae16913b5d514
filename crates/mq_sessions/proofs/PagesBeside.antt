-- Pages that stay held while other turns come and go, and what is left when they are given back.
use Rattle.std.proofs.Common.{◌≡◌, ◌≢◌, ℕ, ◌<◌, List, [], ◌∷◌, length, sym, ap, subst, ◌∙◌, arith}
use Rattle.std.specs.List.{All}
use Rattle.std.proofs.lemmas.List.Elements.{All-cons, All-nil}
use Rattle.mq_pages.specs.Held.{Cells}
use Rattle.mq_pages.specs.declared.page.PageCell.{PageCell}
use Rattle.mq_turns.specs.Desk.{slot_of, after_look}
use Rattle.mq_turns.specs.Lists.{Each, times}
use Rattle.mq_turns.specs.Meaning.{Meaning, newest}
use Rattle.mq_turns.specs.declared.rule.ChairView.{ChairView}
use Rattle.mq_turns.specs.declared.rule.Known.{Known}
use Rattle.mq_turns.specs.declared.rule.Opening.{Opening}
use Rattle.mq_turns.specs.declared.turn.Turn.TheVariants.{Side}
use Rattle.mq_turns.proofs.Lists.{each_map}
use Rattle.mq_sessions.specs.Pages.{HoldsOnlyPages, HoldsPage, HoldsPages, IsSeen, blocks_of, giving_pages}
use Rattle.mq_sessions.proofs.WantedFurther.{cells-below, held-low}
use Rattle.std.specs.Prelude.{Some}
use Rattle.mq_journal.specs.Laws.{without_each}
use Rattle.mq_sessions.proofs.PagesCounting.{all-given}
use Rattle.mq_sessions.proofs.PagesLists.{none-held}

module _ {Q R E : Type 0} (μ : Meaning PageCell Q R E) where
  -- the pages stay held where nothing that is held changes
  page-same : (o : Opening PageCell Q R) (v w : ChairView PageCell Q R E) (b : ℕ) (c : PageCell) → w.held ≡ v.held → HoldsPage μ o v b c → HoldsPage μ o w b c
  page-same o v w b c same h = record {
    turn = h.turn;
    holds = subst (λ l. 0 < times b l) (sym same) h.holds;
    is = subst (Each (λ h. h.0 ≡ b → μ.page b h.1 c)) (sym same) h.is;
  }

  pub pages-same : (o : Opening PageCell Q R) (cells : Cells) (v w : ChairView PageCell Q R E) → w.held ≡ v.held → HoldsPages μ o cells v → HoldsPages μ o cells w
  pages-same o cells v w same h = record {
    rising = h.rising;
    each = each_map (λ x. HoldsPage μ o v x.0 x.1) (λ x. HoldsPage μ o w x.0 x.1) (λ x p. page-same o v w x.0 x.1 same p) cells h.each;
  }

  -- no page has the slot of a side
  other-slots : (o : Opening PageCell Q R) (q : ℕ) (cells : Cells) → Each (λ c. c.0 < length o.pages) cells → All (λ b. b ≢ slot_of o (Side q)) (blocks_of cells)
  other-slots o q [] low = All-nil (λ b. b ≢ slot_of o (Side q))
  other-slots o q (x ∷ xs) low = All-cons (λ b. b ≢ slot_of o (Side q)) x.0 (blocks_of xs) (λ e. let l = low.0 in omega arith) (other-slots o q xs low.1)

  pub side-apart : (o : Opening PageCell Q R) (q : ℕ) (cells : Cells) (v : ChairView PageCell Q R E) → HoldsPages μ o cells v → All (λ b. b ≢ slot_of o (Side q)) (blocks_of cells)
  side-apart o q cells v h = other-slots o q cells (cells-below μ o cells v h)

  -- and the turn of a side is above them
  below-side : (o : Opening PageCell Q R) (q : ℕ) (cells : Cells) → Each (λ c. c.0 < length o.pages) cells → All (λ b. b < slot_of o (Side q)) (blocks_of cells)
  below-side o q [] low = All-nil (λ b. b < slot_of o (Side q))
  below-side o q (x ∷ xs) low = All-cons (λ b. b < slot_of o (Side q)) x.0 (blocks_of xs) (let l = low.0 in omega arith) (below-side o q xs low.1)

  pub side-above : (o : Opening PageCell Q R) (q : ℕ) (cells : Cells) (v : ChairView PageCell Q R E) → HoldsOnlyPages μ o cells v → IsSeen μ v → Each (λ h. h.0 < slot_of o (Side q)) v.held
  side-above o q cells v h seen = held-low μ o (blocks_of cells) cells v (slot_of o (Side q)) (record { pages = h; blocks = λ b. (λ c. c, λ c. c); seen = seen }) (below-side o q cells (cells-below μ o cells v h.pages))

  -- nothing is held any more where all pages are given back
  pub given-empty : (o : Opening PageCell Q R) (cells : Cells) (v : ChairView PageCell Q R E) → HoldsOnlyPages μ o cells v → without_each (blocks_of cells) v.held ≡ []
  given-empty o cells v h = none-held (without_each (blocks_of cells) v.held) (all-given cells v.held h.only)

  -- a look at which an entry was read, and all pages given back
  pub looked-left : (o : Opening PageCell Q R) (cells : Cells) (v w x : ChairView PageCell Q R E) (K : Known PageCell Q R E) (e : E) (at : ℕ) → HoldsOnlyPages μ o cells v → w ≡ after_look (Some e) K v → newest K ≡ at → x ≡ giving_pages (blocks_of cells) w → x ≡ record v { seen = at; hand = 0; held = []; read = (e, K) ∷ v.read }
  looked-left o cells v w x K e at h looked number gave =
      let left : giving_pages (blocks_of cells) (after_look (Some e) K v) ≡ record v { seen = newest K; hand = 0; held = []; read = (e, K) ∷ v.read } = ap (λ (l : List (ℕ × Known PageCell Q R E)). record v { seen = newest K; hand = 0; held = l; read = (e, K) ∷ v.read }) (given-empty o cells v h) in
      let seen : record v { seen = newest K; hand = 0; held = []; read = (e, K) ∷ v.read } ≡ record v { seen = at; hand = 0; held = []; read = (e, K) ∷ v.read } = ap (λ (n : ℕ). record v { seen = n; hand = 0; held = []; read = (e, K) ∷ v.read }) number in
      gave ∙ (ap (giving_pages (blocks_of cells)) looked ∙ (left ∙ seen))
