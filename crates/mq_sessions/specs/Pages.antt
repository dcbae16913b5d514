-- The pages that a session holds.
use Rattle.std.specs.Prelude.{◌≡◌, ◌<◌, ℕ, Bool, true, false, List, ◌++◌, map, reverse, Option, Some, None}
use Rattle.mq_journal.specs.Laws.{without_each}
use Rattle.mq_pages.specs.Held.{Cells, IsRising, cell_of}
use Rattle.mq_pages.specs.declared.page.PageCell.{PageCell}
use Rattle.mq_turns.specs.Desk.{IsTurn, Sees}
use Rattle.mq_turns.specs.Lists.{Each, times}
use Rattle.mq_turns.specs.Meaning.{Meaning}
use Rattle.mq_turns.specs.declared.rule.Known.{Known}
use Rattle.mq_turns.specs.declared.rule.Opening.{Opening}
use Rattle.mq_turns.specs.declared.rule.ChairView.{ChairView}
use Rattle.mq_turns.specs.declared.turn.Turn.TheVariants.{Page}

-- the blocks of cells, in their order
abbrev pub blocks_of : Cells → List ℕ
blocks_of cells = map (λ x. x.0) cells

-- what is known of each block: nothing, that it is absent, or its content
abbrev pub page_in : Option PageCell → Option (Option (List ℕ))
page_in None = None
page_in (Some cell) = Some cell.content

abbrev pub held_pages : Cells → ℕ → Option (Option (List ℕ))
held_pages cells b = page_in (cell_of cells b)

-- cells of these blocks stand behind the others, which stay as they are
pub record AddsCells (blocks : List ℕ) (old new : Cells) : Type 0 where
  pub added : Cells
  pub blocks_are : blocks_of added ≡ blocks
  pub is : new ≡ old ++ added

module _ {Q R E : Type 0} where
  -- the session takes turns of pages, the last taken first, and gives these pages back
  abbrev pub taking_pages : List (ℕ × Known PageCell Q R E) → ChairView PageCell Q R E
      → ChairView PageCell Q R E
  taking_pages taken v = record v { hand = 0; held = taken ++ v.held }

  abbrev pub giving_pages : List ℕ → ChairView PageCell Q R E → ChairView PageCell Q R E
  giving_pages blocks v = record v { hand = 0; held = without_each blocks v.held }

module _ {Q R E : Type 0} (μ : Meaning PageCell Q R E) where
  -- The session holds the turn of the block's page, and the cell is what the machine says of the page by
  -- what the session knows of that turn.
  pub record HoldsPage (o : Opening PageCell Q R) (v : ChairView PageCell Q R E) (b : ℕ)
      (c : PageCell) : Type 0 where
    pub turn : IsTurn o (Page b)
    pub holds : 0 < times b v.held
    pub is : Each (λ h. h.0 ≡ b → μ.page b h.1 c) v.held

  -- It holds the page of each of these cells. The cells stand by rising block.
  pub record HoldsPages (o : Opening PageCell Q R) (cells : Cells)
      (v : ChairView PageCell Q R E) : Type 0 where
    pub rising : IsRising cells
    pub each : Each (λ x. HoldsPage o v x.0 x.1) cells

  -- And it holds no other turn.
  pub record HoldsOnlyPages (o : Opening PageCell Q R) (cells : Cells)
      (v : ChairView PageCell Q R E) : Type 0 where
    pub pages : HoldsPages o cells v
    pub only : (k : ℕ) → times k v.held ≡ times k cells

  -- A cell and the one that stands for the same page after a step of the session's own, which is about
  -- these slots: it is what the machine says of the page by what was known then. Where the step is not
  -- about the page, it is the same cell.
  pub record IsAfterStep (about : ℕ → Bool) (L : Known PageCell Q R E)
      (old new : ℕ × PageCell) : Type 0 where
    pub block : new.0 ≡ old.0
    pub about_it : about old.0 ≡ true → μ.page old.0 L new.1
    pub about_others : about old.0 ≡ false → new.1 ≡ old.1

  -- something may be known by now
  abbrev pub IsSeen : ChairView PageCell Q R E → Type 0
  IsSeen v = (K : Known PageCell Q R E) × Sees μ v K

  -- The session has taken the pages of these blocks, in their order. Nothing else of it changes.
  pub record TakesPages (blocks : List ℕ) (old new : ChairView PageCell Q R E) : Type 0 where
    pub taken : List (ℕ × Known PageCell Q R E)
    pub slots : map (λ h. h.0) taken ≡ reverse blocks
    pub is : new ≡ taking_pages taken old
    pub seen : IsSeen old → IsSeen new
