-- What the plan of a group's writes is made of.
use Rattle.std.specs.Prelude.{◌≡◌, ℕ, Bool, true, false, List, map, Option, Some, None, is_none}
use Rattle.std.specs.List.{Contains}
use Rattle.mq_blocks.specs.Machine.{Map}
use Rattle.mq_desk_laws.specs.Groups.{GroupView}
use Rattle.mq_desk_laws.specs.Rule.{DeskState, IsPage, history_of, start_of}
use Rattle.mq_desk_laws.specs.Values.{Values}
use Rattle.mq_ledger.specs.History.{last, last_logged, map_after}
use Rattle.mq_ledger.specs.declared.tx.Tx.{Tx}
use Rattle.mq_pages.specs.Held.{Cells, cell_of}
use Rattle.mq_pages.specs.declared.page.Kind.{Kind}
use Rattle.mq_pages.specs.declared.page.Kind.TheVariants.{Data, Meta}
use Rattle.mq_pages.specs.declared.page.PageCell.{PageCell}
use Rattle.mq_pages.specs.declared.page.Write.{Write}
use Rattle.mq_revoke.specs.declared.placement.Planned.{Planned}

abbrev pub is_data : Kind → Bool
is_data Data = true
is_data Meta = false

-- what the rule of placing asks of a write, on the map at the base and the transactions from there on
abbrev pub planned_by : Map → ℕ → List Tx → Write → Planned
planned_by start base txs w = record {
  block = w.block;
  is_data = is_data w.kind;
  was_free = is_none (map_after start txs w.block);
  version = last base txs w.block;
  last_logged = last_logged base txs w.block;
}

-- the same of a block by the cell of its page; one that isn't held counts as not free, so that it is logged
abbrev pub planned_by_cell : ℕ → Bool → Option PageCell → Planned
planned_by_cell block of_file None =
    record { block = block; is_data = of_file; was_free = false; version = 0; last_logged = 0 }
planned_by_cell block of_file (Some cell) = record {
  block = block;
  is_data = of_file;
  was_free = is_none cell.content;
  version = cell.version;
  last_logged = cell.last_logged;
}

-- by the cells of the pages that a session holds
abbrev pub planned_with : Cells → Write → Planned
planned_with cells w = planned_by_cell w.block (is_data w.kind) (cell_of cells w.block)

module _ {Q R E : Type 0} (values : Values Q R E) (group : GroupView E) where
  -- the cells of the pages that a session holds are what the rule of placing asks for
  abbrev pub PagesTellPlans : Type 0
  PagesTellPlans =
      (K : DeskState values group) (cells : Cells) (writes : List Write)
      → ((b : ℕ) (c : PageCell) → cell_of cells b ≡ Some c → IsPage values group b K c)
      → ((w : Write) → Contains writes w → (c : PageCell) × (cell_of cells w.block ≡ Some c))
      → map (planned_with cells) writes
      ≡ map
      (planned_by (start_of values group K.opening) K.opening.base
      (history_of values group K)) writes
