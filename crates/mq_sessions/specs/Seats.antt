-- The sessions of a desk, before their first call.
use Rattle.std.specs.Prelude.{◌≡◌, ◌≤◌, ℕ, List, []}
use Rattle.mq_blocks.specs.Geometry.{homes_of}
use Rattle.mq_blocks.specs.declared.geometry.Geometry.{Geometry}
use Rattle.mq_pages.specs.Held.{HeldCells}

-- no cell is held, and there is room for those of all home blocks
pub record IsEquipped (g : Geometry) (cells : HeldCells) : Type 0 where
  pub none : cells.cells ≡ []
  pub room : homes_of g ≤ cells.room

-- the session has the number of its queue, has made no call, and wants no block yet
pub record IsUncalled (i queue calls : ℕ) (wanted : List ℕ) : Type 0 where
  pub queue_is : queue ≡ i
  pub calls_are : calls ≡ 0
  pub wanted_are : wanted ≡ []
