-- The blocks whose pages a call asks for.
use Rattle.std.specs.Prelude.{◌≡◌, ◌⊎◌, ◌<◌, ◌≤◌, ◌↔◌, ℕ, List}
use Rattle.std.specs.List.{All, AllPairs, Contains}
use Rattle.mq_pages.specs.Held.{Cells}
use Rattle.mq_pages.specs.declared.page.PageCell.{PageCell}
use Rattle.mq_turns.specs.Meaning.{Meaning}
use Rattle.mq_turns.specs.declared.rule.Opening.{Opening}
use Rattle.mq_turns.specs.declared.rule.ChairView.{ChairView}
use Rattle.mq_sessions.specs.Pages.{HoldsOnlyPages, IsSeen, blocks_of}

-- home blocks of a drive with `homes` of them, by rising number
pub record AreWanted (homes : ℕ) (blocks : List ℕ) : Type 0 where
  pub rise : AllPairs (λ a b. a < b) blocks
  pub homes_are : All (λ b. b < homes) blocks

-- the lists have the same blocks
abbrev pub HaveSame : List ℕ → List ℕ → Type 0
HaveSame blocks others = (b : ℕ) → Contains blocks b ↔ Contains others b

-- the blocks of both lists, by rising number
pub record AreTogether (blocks others both : List ℕ) : Type 0 where
  pub rise : AllPairs (λ a b. a < b) both
  pub first : (b : ℕ) → Contains blocks b → Contains both b
  pub second : (b : ℕ) → Contains others b → Contains both b
  pub only : (b : ℕ) → Contains both b → Contains blocks b ⊎ Contains others b

module _ {Q R E : Type 0} where
  -- Nothing of the session changes but the turns that it holds, and the greatest number that it knows of,
  -- which does not fall.
  pub record IsSameSession (old new : ChairView PageCell Q R E) : Type 0 where
    pub is : new ≡ record old { seen = new.seen; hand = new.hand; held = new.held }
    pub seen : old.seen ≤ new.seen

module _ {Q R E : Type 0} (μ : Meaning PageCell Q R E) where
  -- The session holds just the pages of the wanted blocks, and something may be known by now.
  pub record HoldsWanted (o : Opening PageCell Q R) (wanted : List ℕ) (cells : Cells)
      (v : ChairView PageCell Q R E) : Type 0 where
    pub pages : HoldsOnlyPages μ o cells v
    pub blocks : HaveSame wanted (blocks_of cells)
    pub seen : IsSeen μ v
