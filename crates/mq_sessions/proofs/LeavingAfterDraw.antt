-- How the pages of a drawn group are given back.
use Rattle.std.proofs.Common.{◌≡◌, ◌≢◌, ◌⊎◌, ℕ, ◌+◌, ◌<◌, ◌≤◌, Bool, cond, List, [], ◌∷◌, ◌++◌, refl, sym, ap, subst, ◌∙◌, inl, inr, arith}
use Rattle.std.specs.Prelude.{Some, None}
use Rattle.std.specs.List.{Contains}
use Rattle.std.proofs.lemmas.Bool.{cases_eq, ne_eqb}
use Rattle.std.proofs.lemmas.List.{map-append}
use Rattle.std.proofs.lemmas.List.Elements.{Contains-append_cases, Contains-append_left}
use Rattle.mq_blocks.specs.Descriptor.{AreRising}
use Rattle.mq_sessions.specs.Drawn.{tx_by, blocks_in, LeavesBelow}
use Rattle.mq_sessions.proofs.DrawnSettled.{stays_below}
use Rattle.mq_sessions.specs.Pages.{held_pages, page_in, HoldsPages, blocks_of, giving_pages}
use Rattle.mq_ledger.specs.declared.tx.Tx.{Tx}
use Rattle.mq_pages.specs.Held.{Cells, IsRising, cell_of}
use Rattle.mq_pages.specs.declared.page.PageCell.{PageCell}
use Rattle.mq_pages.specs.declared.page.Write.{Write}
use Rattle.mq_revoke.specs.Placed.{Placed}
use Rattle.mq_desk_laws.specs.Cells.{cell_after}
use Rattle.mq_sessions.proofs.Members.{cons-cases, cons-here, cons-there, none-contained}
use Rattle.mq_turns.specs.Chairs.{giving}
use Rattle.mq_turns.specs.Lists.{Each}
use Rattle.mq_turns.specs.Meaning.{Meaning}
use Rattle.mq_turns.specs.declared.rule.Opening.{Opening}
use Rattle.mq_turns.specs.declared.rule.ChairView.{ChairView}
use Rattle.mq_sessions.specs.Leaving.{AreOnCells, cells_after}
use Rattle.mq_sessions.proofs.PagesHolding.{IsLast}
use Rattle.mq_sessions.proofs.PagesLists.{rising-last}
use Rattle.mq_sessions.proofs.PagesTaking.{HasGiven, given-all, given-last, given-more, given-none, blocks-push}
use Rattle.mq_sessions.proofs.DrawnPages.{blocks-after}

-- ---- cells

after-push : (t : Tx) (cells : Cells) (b : ℕ) (c : PageCell) → cells_after t (cells ++ (b, c) ∷ []) ≡ cells_after t cells ++ (b, cell_after t b c) ∷ []
after-push t cells b c = map-append (λ (x : ℕ × PageCell). (x.0, cell_after t x.0 x.1)) cells ((b, c) ∷ [])

each-before : (b : ℕ) (t : Tx) (cells : Cells) → Each (λ x. x.0 < b) (cells_after t cells) → Each (λ x. x.0 < b) cells
each-before b t [] low = tt
each-before b t (x ∷ xs) low = (low.0, each-before b t xs low.1)

below-all : (b n : ℕ) (cells : Cells) → Each (λ x. x.0 < b) cells → Contains (blocks_of cells) n → n < b
below-all b n [] low c = none-contained n c
below-all b n (x ∷ xs) low c = elim (cons-cases x.0 (blocks_of xs) n c) [
  | inl here ↦ let l = low.0 in omega arith
  | inr there ↦ below-all b n xs low.1 there
]

-- a block whose page is held has a cell
on-cells : (cells : Cells) (b : ℕ) → held_pages cells b ≢ None → Contains (blocks_of cells) b
on-cells [] b some = absurd (some refl)
on-cells (x ∷ xs) b some = elim (cases_eq x.0 b) [
  | inl same ↦ cons-here x.0 (blocks_of xs) b same
  | inr other ↦ cons-there x.0 (blocks_of xs) b (on-cells xs b (λ none. some (ap (λ (t : Bool). page_in (cond t (Some x.1) (cell_of xs b))) (ne_eqb x.0 b other) ∙ none)))
]

-- ---- writes by rising block

rise-to : (low high b : ℕ) (ws : List Write) → AreRising low high (blocks_in ws) → ((w : Write) → Contains ws w → w.block ≤ b) → AreRising low (b + 1) (blocks_in ws)
rise-to low high b [] r le = tt
rise-to low high b (x ∷ xs) r le = (r.0, (let a = le x (cons-here x xs x refl) in omega arith), rise-to (x.block + 1) high b xs r.2 (λ w c. le w (cons-there x xs w c)))

rise-below : (low high : ℕ) (ws : List Write) (w : Write) → AreRising low high (blocks_in ws) → Contains ws w → w.block < high
rise-below low high [] w r c = none-contained w c
rise-below low high (x ∷ xs) w r c = elim (cons-cases x xs w c) [
  | inl here ↦ subst (λ (v : Write). v.block < high) here r.1
  | inr there ↦ rise-below (x.block + 1) high xs w r.2 there
]

-- ---- giving back

module _ {Q R E : Type 0} (μ : Meaning PageCell Q R E) (o : Opening PageCell Q R) (number : ℕ) (plan : Placed) (frees : List ℕ) where
  abbrev tx : List Write → Tx
  tx writes = tx_by number 0 plan writes frees

  -- what was written to blocks above changes nothing of the cells below
  after-below : (b : ℕ) (less gone : List Write) (cells : Cells) → ((w : Write) → Contains gone w → w.block ≡ b) → Each (λ x. x.0 < b) cells → cells_after (tx (less ++ gone)) cells ≡ cells_after (tx less) cells
  after-below b less gone [] own low = refl
  after-below b less gone (x ∷ xs) own low = λ i. (x.0, stays_below number 0 x.0 plan less gone frees x.1 (λ w c. let a = own w c in let l = low.0 in omega arith) i) ∷ after-below b less gone xs own low.1 i

  -- The pages that are still held have the cells that the writes which are left make of them, and those
  -- writes are of their blocks.
  pub record HasLeft (old now : ChairView PageCell Q R E) (before cells : Cells) (all writes : List Write) : Type 0 where
    pub given : HasGiven μ o old now (cells_after (tx all) before) (cells_after (tx writes) cells)
    pub rise : (high : ℕ) × AreRising 0 high (blocks_in writes)
    pub written : (w : Write) → Contains writes w → Contains (blocks_of cells) w.block

  pub left-none : (v : ChairView PageCell Q R E) (cells : Cells) (writes : List Write) → HoldsPages μ o (cells_after (tx writes) cells) v → (high : ℕ) × AreRising 0 high (blocks_in writes) → AreOnCells cells writes → HasLeft v v cells cells writes writes
  left-none v cells writes pages rise written = record {
    given = given-none μ o v (cells_after (tx writes) cells) pages;
    rise = rise;
    written = λ w c. on-cells cells w.block (written w c);
  }

  module _ (old now : ChairView PageCell Q R E) (before cells rest : Cells) (all writes : List Write) (b : ℕ) (c : PageCell) (h : HasLeft old now before cells all writes) (e : cells ≡ rest ++ (b, c) ∷ []) where
    after-is : cells_after (tx writes) cells ≡ cells_after (tx writes) rest ++ (b, cell_after (tx writes) b c) ∷ []
    after-is = ap (cells_after (tx writes)) e ∙ after-push (tx writes) rest b c

    -- the last page
    pub left-last : IsLast μ o (cells_after (tx writes) rest) now b (cell_after (tx writes) b c)
    left-last = given-last μ o old now (cells_after (tx all) before) (cells_after (tx writes) cells) (cells_after (tx writes) rest) b (cell_after (tx writes) b c) h.given after-is

    rest-low : Each (λ x. x.0 < b) rest
    rest-low = each-before b (tx writes) rest (rising-last (b, cell_after (tx writes) b c) (cells_after (tx writes) rest) (subst IsRising after-is h.given.pages.rising))

    -- each block is the last one, or one of the rest
    last-or-rest : (n : ℕ) → Contains (blocks_of cells) n → Contains (blocks_of rest) n ⊎ (b ≡ n)
    last-or-rest n there = elim (Contains-append_cases (blocks_of rest) (b ∷ []) n (subst (λ (bs : List ℕ). Contains bs n) (ap blocks_of e ∙ blocks-push rest b c) there)) [
      | inl before ↦ inl before
      | inr here ↦ elim (cons-cases b [] n here) [
        | inl same ↦ inr same
        | inr none ↦ none-contained n none
      ]
    ]

    -- nothing is left that was written to a block above it
    pub left-rises : AreRising 0 (b + 1) (blocks_in writes)
    left-rises = rise-to 0 h.rise.0 b writes h.rise.1 (λ w k. elim (last-or-rest w.block (h.written w k)) [
      | inl before ↦ (let low = below-all b w.block rest rest-low before in omega arith)
      | inr same ↦ omega arith
    ])

    pub left-more : (new : ChairView PageCell Q R E) (less : List Write) → new ≡ giving b now → LeavesBelow b writes less → HasLeft old new before rest all less
    left-more new less is l = record {
      given =
          let same : cells_after (tx writes) rest ≡ cells_after (tx less) rest = ap (λ (ws : List Write). cells_after (tx ws) rest) l.is ∙ after-below b less l.gone rest l.own rest-low in
          subst (HasGiven μ o old new (cells_after (tx all) before)) same (given-more μ o old now new (cells_after (tx all) before) (cells_after (tx writes) cells) (cells_after (tx writes) rest) b (cell_after (tx writes) b c) h.given after-is is);
      rise = (b, l.below);
      written = λ w k. elim (last-or-rest w.block (h.written w (subst (λ (ws : List Write). Contains ws w) (sym l.is) (Contains-append_left less l.gone w k)))) [
        | inl before ↦ before
        | inr same ↦ (let low = rise-below 0 b less w l.below k in absurd (omega arith))
      ];
    }

  pub left-all : (old now : ChairView PageCell Q R E) (before cells : Cells) (all writes : List Write) → HasLeft old now before cells all writes → cells ≡ [] → now.hand ≡ 0 → now ≡ giving_pages (blocks_of before) old
  left-all old now before cells all writes h none quiet =
      given-all μ o old now (cells_after (tx all) before) (cells_after (tx writes) cells) h.given (ap (cells_after (tx writes)) none) quiet
      ∙ ap (λ (bs : List ℕ). giving_pages bs old) (blocks-after (tx all) before)
