use Rattle.std.proofs.Common.{◌≡◌, ◌≤◌, ◌+◌, length}
use Rattle.std.specs.Prelude.{vec_capacity}
use Rattle.mq_kv.specs.Opening.{store_map}
use Rattle.mq_sessions.proofs.OpeningCells.{HasMadeCells}
use Rattle.mq_kv.proofs.cells.make_cells.Given as goal

abbrev pub invariant-loop-block : goal.invariant-loop-block
invariant-loop-block l = record {
  made : HasMadeCells l.geometry (store_map l.geometry) l.fn.standing.blocks.items l.base l.blocks.items l.cells.items;
  base : l.base ≡ l.fn.standing.base;
  room : length l.blocks.items + length l.cells.items ≤ vec_capacity l.cells;
}

abbrev pub decreases-loop-block : goal.decreases-loop-block
decreases-loop-block l = length l.blocks.items
