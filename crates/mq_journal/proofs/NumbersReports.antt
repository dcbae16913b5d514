-- A report of the port of a side.
use Rattle.std.proofs.Common.{◌⊎◌, ℕ, ◌-◌, ◌≤◌, ◌^◌, List, ◌∷◌, length, refl, sym, subst}
use Rattle.mq_blocks.specs.Drive.{PortState}
use Rattle.mq_drive.specs.Steps.{PortFault}
use Rattle.mq_drive.specs.declared.port.Port.{Ghosts}
use Rattle.mq_ledger.specs.declared.tx.Tx.{Tx}
use Rattle.mq_desk_laws.specs.Faults.{AreCharged, IsBacked, reports_of}
use Rattle.mq_desk_laws.specs.Groups.{GroupView}
use Rattle.mq_desk_laws.specs.Rule
use Rattle.mq_desk_laws.specs.Rule.{IsSide}
use Rattle.mq_desk_laws.specs.Values.{Part, Values}
use Rattle.mq_desk_laws.proofs.RuleTelling.{side_charged}
use Rattle.mq_queue_side.specs.Side.{SideState, side_state}
use Rattle.mq_queue_side.specs.declared.root.Root.{Root}
use Rattle.mq_queue_side.specs.declared.side.QueueSide.{QueueSide}
use Rattle.mq_turns.specs.Lists.{Each}
use Rattle.mq_turns.specs.Meaning.{charged}
use Rattle.mq_turns.specs.declared.rule.Report.{Report}
use Rattle.mq_turns.specs.declared.turn.Turn.TheVariants.{Side}
use Rattle.mq_journal.specs.Numbers
use Rattle.mq_journal.specs.Numbers.{Shared, reported}
use Rattle.mq_journal.specs.Values.{IsRecord, Shows}
use Rattle.mq_journal.proofs.ValuesShowing.{reports_next}

-- what a record says, it says whatever was reported
record_reported : (p : Part) (reports : List Report) (s : SideState) → IsRecord p s → IsRecord (record p { reports = reports }) s
record_reported p reports s is = record {
  geometry = is.geometry;
  queue = is.queue;
  passed = is.passed;
  rung = is.rung;
  last = is.last;
  done = is.done;
  kept = is.kept;
  told = is.told;
  few = is.few;
  rings = is.rings;
  bound = is.bound;
}

module _ {P E : Type 0} {G : Ghosts P} (state : P → PortState) (faults : P → List PortFault) (group : GroupView E) (q : ℕ) (K : Shared P E G) (s u : QueueSide P E G) (r : Report) where
  abbrev values : Values (QueueSide P E G) (Root P G) E
  values = Numbers.values state faults group

  abbrev from : ℕ
  from = Rule.doorbell_of values group K.opening q

  abbrev us : List Tx
  us = Rule.own_of values group q K

  abbrev ShowsIt : Type 0
  ShowsIt = Shows from us (state u.pmr.port).doorbell (state u.pmr.port).failed u.kept r

  says_reported : IsSide values group q K u → ShowsIt → values.says (Rule.part_of values group q (charged (reported q r) K)) u
  says_reported is shows =
      let all : Each (Shows from us (state u.pmr.port).doorbell (state u.pmr.port).failed u.kept) (reports_of (Side q) (reported q r ∷ K.charges)) = subst (Each (Shows from us (state u.pmr.port).doorbell (state u.pmr.port).failed u.kept)) (sym (reports_next q (reported q r) K.charges refl)) (shows, is.says.shows) in
      record {
        is = record_reported (Rule.part_of values group q K) (reports_of (Side q) (reported q r ∷ K.charges)) (side_state state faults u) is.says.is;
        whole = is.says.whole;
        stored = is.says.stored;
        shows = all;
      }

  -- with a fault that stands behind it, where it charges one, the side is what the rule says
  pub side_reported : IsSide values group q K u → ShowsIt
      → AreCharged (Rule.geometry_of values group K) (Side q) K.charges (Rule.faults_of values group K.opening q) (faults s.pmr.port)
      → (2 ^ 64 - 1 ≤ length (faults u.pmr.port)) ⊎ IsBacked (Rule.geometry_of values group K) r (Rule.faults_of values group K.opening q) (faults s.pmr.port) (faults u.pmr.port)
      → IsSide values group q (charged (reported q r) K) u
  side_reported is shows was backed = side_charged values group (reported q r) q K s u refl is (says_reported is shows) was backed
