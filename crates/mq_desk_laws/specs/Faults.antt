-- Faults of ports, and what is charged to them.
use Rattle.std.specs.Prelude.{◌≡◌, ◌⊎◌, ℕ, ◌+◌, ◌-◌, ◌^◌, ◌≤◌, ◌&&◌, Bool, false, cond, List, [], ◌∷◌, length, Option, Some, None}
use Rattle.mq_blocks.specs.Geometry.{home_lba}
use Rattle.mq_blocks.specs.declared.geometry.Geometry.{Geometry}
use Rattle.mq_drive.specs.Faults.{count_of, AreMore, IsAdded}
use Rattle.mq_drive.specs.Steps.{PortFault, PowerOff, CommandError, HomeError}
use Rattle.mq_turns.specs.Lists.{Each}
use Rattle.mq_turns.specs.Words.{same_turn}
use Rattle.mq_turns.specs.declared.rule.Report.{Report}
use Rattle.mq_turns.specs.declared.rule.Report.TheVariants as report
use Rattle.mq_turns.specs.declared.rule.Charge.{Charge}
use Rattle.mq_turns.specs.declared.turn.Turn.{Turn}

-- the fault that a report charges to the port, if it charges one
abbrev pub fault_of : Geometry → Report → Option PortFault
fault_of g report.Off = Some PowerOff
fault_of g (report.Failed tx status) = Some (CommandError tx status)
fault_of g (report.FailedHome block status) = Some (HomeError (home_lba g block) status)
fault_of g (report.Stopped tx status) = None
fault_of g (report.Sent tx) = None

-- the fault that it names, which may have been charged before
abbrev pub named_by : Geometry → Report → Option PortFault
named_by g report.Off = Some PowerOff
named_by g (report.Failed tx status) = Some (CommandError tx status)
named_by g (report.FailedHome block status) = Some (HomeError (home_lba g block) status)
named_by g (report.Stopped tx None) = Some PowerOff
named_by g (report.Stopped tx (Some status)) = Some (CommandError tx status)
named_by g (report.Sent tx) = None

-- The kind of a fault. A refusal for a command's error names the least transaction that failed, and comes
-- where any command failed: so errors of commands are of one kind.
abbrev pub kind_of : PortFault → PortFault
kind_of PowerOff = PowerOff
kind_of (CommandError tx status) = CommandError 0 0
kind_of (HomeError lba status) = HomeError lba status

-- a test on faults that depends on their kind alone
abbrev pub of_kind : (PortFault → Bool) → PortFault → Bool
of_kind f x = f (kind_of x)

-- there is a fault, and it passes the test
abbrev pub passes : (PortFault → Bool) → Option PortFault → Bool
passes f None = false
passes f (Some x) = f x

-- how many faults that pass the test were charged to the port under the turn
abbrev pub charged_to : Geometry → Turn → (PortFault → Bool) → List Charge → ℕ
charged_to g t f [] = 0
charged_to g t f (c ∷ cs) =
    cond (same_turn t c.port && passes f (fault_of g c.report)) 1 0 + charged_to g t f cs

-- the fault was gained, if there is one
abbrev pub WasGained : Option PortFault → List PortFault → List PortFault → Type 0
WasGained None old new = Unit {0}
WasGained (Some x) old new = IsAdded x old new

-- The port has gained a fault of the same kind for each that was charged to it, it has gained each fault
-- that a report names, and it has lost none.
pub record AreBacked (g : Geometry) (t : Turn) (cs : List Charge) (old new : List PortFault) : Type 0 where
  pub more : AreMore old new
  pub counts : (f : PortFault → Bool)
      → count_of (of_kind f) old + charged_to g t (of_kind f) cs ≤ count_of (of_kind f) new
  pub named : Each (λ c. c.port ≡ t → WasGained (named_by g c.report) old new) cs

-- What the port has gained in a call stands behind a report of it: one fault more of the kind of the one
-- that is charged to it, if one is, and the one that is named since the opening.
pub record IsBacked (g : Geometry) (r : Report) (first old new : List PortFault) : Type 0 where
  pub more : AreMore old new
  pub kind : (f : PortFault → Bool)
      → count_of (of_kind f) old + cond (passes (of_kind f) (fault_of g r)) 1 0
      ≤ count_of (of_kind f) new
  pub named : WasGained (named_by g r) first new

-- This holds until there are as many faults as a count of 64 bits can hold: from there on a call that is
-- refused leaves the list of faults as it is.
abbrev pub AreCharged : Geometry → Turn → List Charge → List PortFault → List PortFault → Type 0
AreCharged g t cs old new = (2 ^ 64 - 1 ≤ length new) ⊎ AreBacked g t cs old new

-- what was reported of the port under the turn, the newest first
abbrev pub reports_of : Turn → List Charge → List Report
reports_of t [] = []
reports_of t (c ∷ cs) = cond (same_turn t c.port) (c.report ∷ reports_of t cs) (reports_of t cs)
