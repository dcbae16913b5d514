-- Pages that are held: home blocks with their cells.
use Rattle.std.specs.Prelude.{ℕ, ◌<◌, ◌≤◌, ◌==◌, List, [], ◌∷◌, length, Option, Some, None, if◌then◌else◌}
use Rattle.std.specs.List.{AllPairs}
use Rattle.mq_pages.specs.declared.page.PageCell.{PageCell}

-- home blocks, each with its cell
abbrev pub Cells : Type 0
Cells = List (ℕ × PageCell)

-- what is held, and how many cells there is room for, the held ones among them
pub record HeldCells : Type 0 where
  pub cells : Cells
  pub room : ℕ

-- of each two cells the first is that of the lesser block
abbrev pub IsRising : Cells → Type 0
IsRising cells = AllPairs (λ x y. x.0 < y.0) cells

-- the block is above that of the last cell
abbrev pub IsAboveLast : ℕ → Cells → Type 0
IsAboveLast b [] = Unit {0}
IsAboveLast b (x ∷ []) = x.0 < b
IsAboveLast b (x ∷ y ∷ rest) = IsAboveLast b (y ∷ rest)

-- the cell of a block, where the block is held
abbrev pub cell_of : Cells → ℕ → Option PageCell
cell_of [] b = None
cell_of ((x, cell) ∷ rest) b = if x == b then Some cell else cell_of rest b

-- what holds of the cells of a held set with room for `room` of them, in memory for `capacity`
pub record IsHeld (cells : Cells) (room capacity : ℕ) : Type 0 where
  pub fits : length cells ≤ room
  pub reserved : room ≤ capacity
  pub rising : IsRising cells
