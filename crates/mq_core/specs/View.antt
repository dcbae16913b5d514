-- The fields of a machine as its state. What is newest stands last in the code, and first in the state.
use Rattle.std.specs.Prelude.{◌≡◌, ℕ, reverse}
use Rattle.mq_blocks.specs.Drive.{staged_end}
use Rattle.mq_ledger.specs.Plain.{plain}
use Rattle.mq_ledger.specs.State.{State, Facts, front_of}
pub use Rattle.mq_core.specs.Parts.{state_with}
use Rattle.mq_core.specs.declared.machine.Core.TheInside.{Inside}

abbrev pub state_of : Inside → State
state_of c =
    state_with c.ledger c.ports.items c.root c.marks.items (reverse c.writing.items)
    (reverse c.acknowledged.items)

-- The state has these facts, this is its front, and nothing is staged at the root.
pub record IsHeldBy (has : State → Type 0) (front : ℕ) (s : State) : Type 0 where
  pub facts : has s
  pub front_is : front ≡ front_of s
  pub idle : staged_end s.root ≡ 0

abbrev pub IsHeld : ℕ → State → Type 0
IsHeld front s = IsHeldBy (λ t. Facts plain t) front s

abbrev pub HasFacts : Inside → Type 0
HasFacts c = IsHeld c.ledger.front (state_of c)
