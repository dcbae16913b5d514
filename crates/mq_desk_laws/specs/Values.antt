-- What the values on a desk show of the drive: a queue's side, and the root.
use Rattle.std.specs.Prelude.{◌≤◌, ℕ, List}
use Rattle.mq_blocks.specs.Drive.{PortState}
use Rattle.mq_blocks.specs.declared.geometry.Geometry.{Geometry}
use Rattle.mq_drive.specs.Steps.{PortFault}
use Rattle.mq_ledger.specs.declared.tx.Tx.{Tx}
use Rattle.mq_turns.specs.declared.rule.Report.{Report}

-- what a side's own record may refer to, beside its port
pub record Part : Type 0 where
  pub geometry : Geometry
  pub queue : ℕ
  -- the doorbell of its port at the opening; its whole port there, and the faults of the port
  pub start : ℕ
  pub opened : PortState
  pub first : List PortFault
  -- the base word
  pub word : ℕ
  -- the transactions of its queue, newest first
  pub txs : List Tx
  -- what was reported of its port, newest first
  pub reports : List Report

pub record Values (Q R E : Type 0) : Type 1 where
  -- of a side: its port, the faults of the port, in no order, the entries that it stores, each with its
  -- number, newest first, and what the rest of its record says
  pub port : Q → PortState
  pub faults : Q → List PortFault
  pub stored : Q → List (ℕ × E)
  pub says : Part → Q → Type 0
  -- of the root: its port, the faults of the port, and what the rest of its record says of the shape of the
  -- drive
  pub root : R → PortState
  pub root_faults : R → List PortFault
  pub root_says : Geometry → R → Type 0
  -- the shape of the drive, by the sides and the root that a desk was opened with
  pub geometry : List Q → R → Geometry
  -- the law: a later base word takes nothing away
  pub later : (p : Part) (word : ℕ) (w : Q) → p.word ≤ word → says p w → says (record p { word = word }) w
