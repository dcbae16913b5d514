-- What a drawn group makes of the pages that its session holds.
use Rattle.std.specs.Prelude.{◌≢◌, List, None, map}
use Rattle.std.specs.List.{Contains}
use Rattle.mq_sessions.specs.Pages.{held_pages}
use Rattle.mq_ledger.specs.declared.tx.Tx.{Tx}
use Rattle.mq_pages.specs.Held.{Cells}
use Rattle.mq_pages.specs.declared.page.Write.{Write}
use Rattle.mq_desk_laws.specs.Cells.{cell_after}

-- the cells after a transaction
abbrev pub cells_after : Tx → Cells → Cells
cells_after t cells = map (λ x. (x.0, cell_after t x.0 x.1)) cells

-- the page of each block that is written has its cell among these
abbrev pub AreOnCells : Cells → List Write → Type 0
AreOnCells cells writes = (w : Write) → Contains writes w → held_pages cells w.block ≢ None
