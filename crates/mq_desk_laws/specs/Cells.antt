-- What a transaction makes of the cell of a home block.
use Rattle.std.specs.Prelude.{ℕ, is_some, if◌then◌else◌}
use Rattle.mq_blocks.specs.Machine.{after, write_of}
use Rattle.mq_ledger.specs.History.{change_of, changes}
use Rattle.mq_ledger.specs.declared.tx.Tx.{Tx}
use Rattle.mq_pages.specs.declared.page.PageCell.{PageCell}

-- the content that it leaves, and its number where it changed the block, logged it, or wrote it home
abbrev pub cell_after : Tx → ℕ → PageCell → PageCell
cell_after t b c = record {
  content = after (λ x. c.content) (change_of t) b;
  version = if changes t b then t.number else c.version;
  last_logged = if is_some (write_of t.logged b) then t.number else c.last_logged;
  home_version = if is_some (write_of t.direct b) then t.number else c.home_version;
}
