use Rattle.std.proofs.Common.{◌≡◌, ◌≤◌, ◌+◌, length}
use Rattle.std.specs.Prelude.{vec_capacity}
use Rattle.mq_sessions.proofs.OpeningCells.{HasMadeCells}
use Rattle.mq_tree.specs.Laid.{map_of}
use Rattle.mq_calls.proofs.opening.cells.make_cells.Given as goal

abbrev pub invariant-loop-block : goal.invariant-loop-block
invariant-loop-block l = record {
  made : HasMadeCells l.geometry (map_of l.geometry) l.fn.standing.blocks.items l.base l.blocks.items l.cells.items;
  base : l.base ≡ l.fn.standing.base;
  room : length l.blocks.items + length l.cells.items ≤ vec_capacity l.cells;
}

abbrev pub decreases-loop-block : goal.decreases-loop-block
decreases-loop-block l = length l.blocks.items
