-- What the loose facts of a state say of its log and its ports, and what a flush leaves of the rows.
use Rattle.std.proofs.Common.{◌≡◌, false, List, reverse, sym, ap, ◌∙◌}
use Rattle.mq_blocks.specs.Drive.{PortState}
use Rattle.mq_ledger.specs.Items.{Entries}
use Rattle.mq_ledger.specs.Records.{Ledger}
use Rattle.mq_ledger.specs.State.{State}
use Rattle.mq_core.specs.Settled.{settled}
use Rattle.mq_core.proofs.StateSides.{HasSides}
use Rattle.mq_loose.specs.Guards.{entries_in}
use Rattle.mq_loose.specs.Rows.{loose_rows}
use Rattle.mq_loose.specs.Safe.{Facts}
use Rattle.mq_loose.specs.declared.machine.rows.LooseRow.{LooseRow}

pub sides_of : (e : Entries) (s : State) → Facts e s → HasSides (entries_in e s) (λ x v. false) s
sides_of e s f = record { log = f.log; ports = f.ports; sides = f.sides; root = f.root }

-- the ledger has another front, and no other field
pub rows_stay : (l k : Ledger) (ports : List PortState) (rows : List LooseRow) → k ≡ settled ports l → rows ≡ reverse (loose_rows l.base l.starts l.history) → rows ≡ reverse (loose_rows k.base k.starts k.history)
rows_stay l k ports rows is same = same ∙ sym (ap (λ (m : Ledger). reverse (loose_rows m.base m.starts m.history)) is)
