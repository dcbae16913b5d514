-- Pages that are taken one after another, and given back.
use Rattle.std.proofs.Common.{◌≡◌, ℕ, ◌+◌, ◌<◌, ◌≤◌, List, [], ◌∷◌, ◌++◌, length, get_or, take, refl, sym, ap, subst, ◌∙◌, append-nil, append_assoc, arith}
use Rattle.std.specs.List.{All, AllPairs}
use Rattle.std.proofs.lemmas.List.{get_or_default, map-append, reverse-append, take_more}
use Rattle.std.specs.Prelude.{reverse}
use Rattle.mq_journal.specs.Laws.{without_each}
use Rattle.mq_pages.specs.Held.{Cells}
use Rattle.mq_pages.specs.declared.page.PageCell.{PageCell}
use Rattle.mq_turns.specs.Chairs.{giving, holding}
use Rattle.mq_turns.specs.Desk.{IsTurn, Sees}
use Rattle.mq_turns.specs.Lists.{Each}
use Rattle.mq_turns.specs.Meaning.{Meaning}
use Rattle.mq_turns.specs.declared.rule.Known.{Known}
use Rattle.mq_turns.specs.declared.rule.Opening.{Opening}
use Rattle.mq_turns.specs.declared.rule.ChairView.{ChairView}
use Rattle.mq_turns.specs.declared.turn.Turn.TheVariants.{Page}
use Rattle.mq_sessions.specs.Pages.{AddsCells, HoldsPages, TakesPages, blocks_of, giving_pages}
use Rattle.mq_sessions.proofs.PagesHolding.{IsLast, last-page, pages-taken, sees-taken}
use Rattle.mq_sessions.proofs.PagesLists.{without_each-last}

pub blocks-push : (cells : Cells) (b : ℕ) (c : PageCell) → blocks_of (cells ++ (b, c) ∷ []) ≡ blocks_of cells ++ b ∷ []
blocks-push cells b c = map-append (λ (x : ℕ × PageCell). x.0) cells ((b, c) ∷ [])

module _ {Q R E : Type 0} where
  -- a chair has nothing in hand
  quiet-view : (v : ChairView PageCell Q R E) → v.hand ≡ 0 → v ≡ record v { hand = 0 }
  quiet-view v quiet = ap (λ (k : ℕ). record v { hand = k }) quiet

module _ {Q R E : Type 0} (μ : Meaning PageCell Q R E) where
  -- ---- taking

  -- the first n blocks were taken
  pub record HasTaken (o : Opening PageCell Q R) (blocks : List ℕ) (n : ℕ) (old now : ChairView PageCell Q R E) (before cells : Cells) : Type 0 where
    pub took : TakesPages μ (take n blocks) old now
    pub pages : HoldsPages μ o cells now
    pub adds : AddsCells (take n blocks) before cells
    pub above : (k : ℕ) (d : ℕ) → n ≤ k → k < length blocks → Each (λ h. h.0 < get_or blocks k d) now.held

  pub taken-none : (o : Opening PageCell Q R) (blocks : List ℕ) (v : ChairView PageCell Q R E) (cells : Cells) → v.hand ≡ 0 → HoldsPages μ o cells v → All (λ b. Each (λ h. h.0 < b) v.held) blocks → HasTaken o blocks 0 v v cells cells
  taken-none o blocks v cells quiet h above = record {
    took = record { taken = []; slots = refl; is = quiet-view v quiet; seen = λ s. s };
    pages = h;
    adds = record { added = []; blocks_are = refl; is = sym (append-nil cells) };
    above = λ k d le lt. above k d lt;
  }

  -- the next block is above all that is held
  pub next-above : (o : Opening PageCell Q R) (blocks : List ℕ) (n b : ℕ) (old now : ChairView PageCell Q R E) (before cells : Cells) → HasTaken o blocks n old now before cells → n < length blocks → b ≡ get_or blocks n b → Each (λ h. h.0 < b) now.held
  next-above o blocks n b old now before cells h lt at = subst (λ (m : ℕ). Each (λ (x : ℕ × Known PageCell Q R E). x.0 < m) now.held) (sym at) (h.above n b (omega arith) lt)

  pub taken-more : (o : Opening PageCell Q R) (blocks : List ℕ) (n b : ℕ) (old now new : ChairView PageCell Q R E) (before cells more : Cells) (c : PageCell) (K : Known PageCell Q R E)
      → HasTaken o blocks n old now before cells → n < length blocks → b ≡ get_or blocks n b → AllPairs (λ x y. x < y) blocks → IsTurn o (Page b) → new ≡ holding b K now → Sees μ now K → μ.page b K c → more ≡ cells ++ (b, c) ∷ []
      → HasTaken o blocks (n + 1) old new before more
  taken-more o blocks n b old now new before cells more c K h lt at rise mine is sees page pushed =
      let grown : take (n + 1) blocks ≡ take n blocks ++ b ∷ [] = take_more blocks n b lt ∙ ap (λ (x : ℕ). take n blocks ++ x ∷ []) (sym at) in
      let low = next-above o blocks n b old now before cells h lt at in
      let holds = pages-taken μ o cells now b c K mine low page h.pages in
      record {
        took = record {
          taken = (b, K) ∷ h.took.taken;
          slots = ap (λ (ks : List ℕ). b ∷ ks) h.took.slots ∙ (sym (reverse-append (take n blocks) (b ∷ [])) ∙ sym (ap reverse grown));
          is = is ∙ ap (holding b K) h.took.is;
          seen = λ s. (K, subst (λ (v : ChairView PageCell Q R E). Sees μ v K) (sym is) (sees-taken μ b K now sees));
        };
        pages = subst (λ (cs : Cells). HoldsPages μ o cs new) (sym pushed) (subst (λ (v : ChairView PageCell Q R E). HoldsPages μ o (cells ++ (b, c) ∷ []) v) (sym is) holds);
        adds = record {
          added = h.adds.added ++ (b, c) ∷ [];
          blocks_are = blocks-push h.adds.added b c ∙ (ap (λ (ks : List ℕ). ks ++ b ∷ []) h.adds.blocks_are ∙ sym grown);
          is = pushed ∙ (ap (λ (cs : Cells). cs ++ (b, c) ∷ []) h.adds.is ∙ append_assoc before h.adds.added ((b, c) ∷ []));
        };
        above = λ k d le l.
            let here : b ≡ get_or blocks n d = at ∙ get_or_default blocks n b d lt in
            let up = rise n k d (omega arith) l in
            let under : b < get_or blocks k d = omega arith in
            subst (λ (v : ChairView PageCell Q R E). Each (λ x. x.0 < get_or blocks k d) v.held) (sym is) (under, h.above k d (omega arith) l);
      }

  -- ---- giving back

  -- what is still held, where all of it is given back, leaves what giving back all would have left at first
  pub record HasGiven (o : Opening PageCell Q R) (old now : ChairView PageCell Q R E) (before cells : Cells) : Type 0 where
    pub gives : giving_pages (blocks_of cells) now ≡ giving_pages (blocks_of before) old
    pub pages : HoldsPages μ o cells now

  pub given-none : (o : Opening PageCell Q R) (v : ChairView PageCell Q R E) (cells : Cells) → HoldsPages μ o cells v → HasGiven o v v cells cells
  given-none o v cells h = record { gives = refl; pages = h }

  pub given-last : (o : Opening PageCell Q R) (old now : ChairView PageCell Q R E) (before cells rest : Cells) (b : ℕ) (c : PageCell) → HasGiven o old now before cells → cells ≡ rest ++ (b, c) ∷ [] → IsLast μ o rest now b c
  given-last o old now before cells rest b c h e = last-page μ o cells rest now b c e h.pages

  pub given-more : (o : Opening PageCell Q R) (old now new : ChairView PageCell Q R E) (before cells rest : Cells) (b : ℕ) (c : PageCell) → HasGiven o old now before cells → cells ≡ rest ++ (b, c) ∷ [] → new ≡ giving b now → HasGiven o old new before rest
  given-more o old now new before cells rest b c h e is = record {
    gives = let after : giving_pages (blocks_of rest) (giving b now) ≡ giving_pages (blocks_of cells) now = ap (λ (hs : List (ℕ × Known PageCell Q R E)). record now { hand = 0; held = hs }) (sym (ap (λ (ks : List ℕ). without_each ks now.held) (ap blocks_of e ∙ blocks-push rest b c) ∙ without_each-last (blocks_of rest) b now.held)) in
        ap (giving_pages (blocks_of rest)) is ∙ (after ∙ h.gives);
    pages = subst (λ (v : ChairView PageCell Q R E). HoldsPages μ o rest v) (sym is) (given-last o old now before cells rest b c h e).rest;
  }

  pub given-all : (o : Opening PageCell Q R) (old now : ChairView PageCell Q R E) (before cells : Cells) → HasGiven o old now before cells → cells ≡ [] → now.hand ≡ 0 → now ≡ giving_pages (blocks_of before) old
  given-all o old now before cells h e quiet = quiet-view now quiet ∙ (ap (λ (cs : Cells). giving_pages (blocks_of cs) now) (sym e) ∙ h.gives)
