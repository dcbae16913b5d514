-- The fields of a machine as its state. What is newest stands last in the code, and first in the state.
use Rattle.std.specs.Prelude.{◌≡◌, ℕ, ◌-◌, ◌^◌, List, replicate, reverse}
use Rattle.mq_ledger.specs.Plain.{plain}
use Rattle.mq_ledger.specs.Records.{Ledger}
use Rattle.mq_ledger.specs.State.{State}
use Rattle.mq_core.specs.View.{IsHeldBy, state_with}
use Rattle.mq_loose.specs.Rows.{loose_rows}
use Rattle.mq_loose.specs.Safe.{Facts}
use Rattle.mq_loose.specs.declared.machine.LooseCore.TheInside.{Inside}

-- the marks of the journal's machine, which stay as they are at the start
abbrev pub no_marks : Ledger → List ℕ
no_marks l = replicate l.geometry.queues (2 ^ 64 - 1)

abbrev pub state_of : Inside → State
state_of c =
    state_with c.ledger c.ports.items c.root (no_marks c.ledger) (reverse c.writing.items)
    (reverse c.acknowledged.items)

-- The state has the facts, this is its front, and nothing is staged at the root.
abbrev pub IsHeld : ℕ → State → Type 0
IsHeld front s = IsHeldBy (λ t. Facts plain t) front s

pub record HasFacts (c : Inside) : Type 0 where
  pub held : IsHeld c.ledger.front (state_of c)
  pub rows : c.rows.items ≡ reverse (loose_rows c.ledger.base c.ledger.starts c.ledger.history)
