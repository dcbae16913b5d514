-- What a session knows of a side that it holds, from step to step, in one statement each.
use Rattle.std.specs.Prelude.{◌≡◌, ◌≢◌, ℕ, List, [], ◌∷◌, Some}
use Rattle.mq_blocks.specs.Drive.{PortState}
use Rattle.mq_drive.specs.Steps.{PortFault}
use Rattle.mq_drive.specs.declared.port.Port.{Ghosts}
use Rattle.mq_desk_laws.specs.Groups.{GroupView}
use Rattle.mq_desk_laws.specs.Rule.{IsSide}
use Rattle.mq_queue_side.specs.Commits.{NumberedCommit}
use Rattle.mq_queue_side.specs.declared.answers.Cause.TheVariants.{Stopped}
use Rattle.mq_queue_side.specs.declared.answers.Why.{Why}
use Rattle.mq_queue_side.specs.declared.side.QueueSide.{QueueSide}
use Rattle.mq_turns.specs.Chairs.{giving, holding}
use Rattle.mq_turns.specs.Desk.{Sees, slot_of}
use Rattle.mq_turns.specs.Lists.{Each, without}
use Rattle.mq_turns.specs.declared.turn.Turn.TheVariants.{Side}
use Rattle.mq_journal.specs.Draining.{report_of}
use Rattle.mq_journal.specs.Numbers
use Rattle.mq_journal.specs.Numbers.{Draws, HoldsNumbered, HoldsSide, Seat, Shared, ShowsReport, Start}

-- two sides differ in the room for entries alone
pub record HaveSameParts {P E : Type 0} {G : Ghosts P} (s u : QueueSide P E G) : Type 0 where
  pub pmr : u.pmr ≡ s.pmr
  pub stored : u.stored.items ≡ s.stored.items
  pub done : u.done ≡ s.done
  pub kept : u.kept ≡ s.kept

module _ {A : Type 0} where
  -- what is held except for these slots
  abbrev pub without_each : List ℕ → List (ℕ × A) → List (ℕ × A)
  without_each [] held = held
  without_each (k ∷ ks) held = without k (without_each ks held)

module _ {P E : Type 0} {G : Ghosts P} (state : P → PortState) (faults : P → List PortFault)
    (group : GroupView E) (s : QueueSide P E G) where
  -- it holds the side while it takes the turn of another slot
  abbrev pub SidesStayAtTake : Type 0
  SidesStayAtTake =
      (o : Start P E G) (q k : ℕ) (K : Shared P E G) (v : Seat P E G)
      → k ≢ slot_of o (Side q)
      → HoldsSide state faults group o q s v
      → HoldsSide state faults group o q s (holding k K v)

  -- and while it gives one back
  abbrev pub SidesStayAtGiveBack : Type 0
  SidesStayAtGiveBack =
      (o : Start P E G) (q k : ℕ) (v : Seat P E G)
      → k ≢ slot_of o (Side q)
      → HoldsSide state faults group o q s v
      → HoldsSide state faults group o q s (giving k v)

  -- the same if a number was drawn on it
  abbrev pub NumberedSidesStay : Type 0
  NumberedSidesStay =
      (o : Start P E G) (q k : ℕ) (n : NumberedCommit) (v : Seat P E G)
      → k ≢ slot_of o (Side q)
      → HoldsNumbered state faults group o q s n v
      → HoldsNumbered state faults group o q s n (giving k v)

  -- and while it reads words of the desk, which changes nothing of what it holds
  abbrev pub SidesStayAtReads : Type 0
  SidesStayAtReads =
      (o : Start P E G) (q : ℕ) (v w : Seat P E G)
      → w.held ≡ v.held
      → HoldsSide state faults group o q s v
      → HoldsSide state faults group o q s w

  -- a side for which a commit is prepared is what it was
  abbrev pub PreparedSidesStay : Type 0
  PreparedSidesStay =
      (o : Start P E G) (q : ℕ) (u : QueueSide P E G) (v : Seat P E G)
      → HaveSameParts s u
      → HoldsSide state faults group o q s v
      → HoldsSide state faults group o q u v

  -- whatever is known by now, it is what the rule says
  abbrev pub HeldSidesAreCurrent : Type 0
  HeldSidesAreCurrent =
      (o : Start P E G) (q : ℕ) (v : Seat P E G) (K : Shared P E G)
      → v.opening ≡ Some o
      → HoldsSide state faults group o q s v
      → Sees (Numbers.machine state faults group) v K
      → IsSide (Numbers.values state faults group) group q K s

  -- the failure that it keeps may be reported of its port
  abbrev pub KeptFailuresShow : Type 0
  KeptFailuresShow =
      (o : Start P E G) (q tx : ℕ) (why : Why) (v : Seat P E G)
      → v.opening ≡ Some o
      → HoldsSide state faults group o q s v
      → s.kept ≡ Some (tx, why)
      → ShowsReport state faults group q (report_of (Stopped tx why)) s v

  -- Once a number was drawn on it, turns of other slots may be given back before the commit is sent: all
  -- that changes is what is held.
  abbrev pub SendsOutliveRest : Type 0
  SendsOutliveRest =
      (o : Start P E G) (q : ℕ) (e : E) (n : NumberedCommit) (ks : List ℕ) (old new w : Seat P E G)
      → Draws state faults group o q e old new s n
      → Each (λ k. k ≢ slot_of o (Side q)) ks
      → w.held ≡ without_each ks new.held
      → HoldsNumbered state faults group o q s n w
