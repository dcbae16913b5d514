-- How a desk over the ports of a journal is closed.
use Rattle.std.specs.Prelude.{◌≡◌, List, map}
use Rattle.mq_blocks.specs.Drive.{PortState}
use Rattle.mq_drive.specs.Steps.{PortFault}
use Rattle.mq_drive.specs.declared.port.Port.{Ghosts}
use Rattle.mq_journal.specs.Numbers.{Seat, Start}
use Rattle.mq_journal.specs.Machine.{journal}
use Rattle.mq_desk_laws.specs.Groups.{GroupView}
use Rattle.mq_queue_side.specs.declared.side.QueueSide.{QueueSide}
use Rattle.mq_turns.specs.AtDesk.{start_of, view}
use Rattle.mq_turns.specs.Chairs.{DeskEnded}
use Rattle.mq_turns.specs.Meaning.{Meaning}
use Rattle.mq_turns.specs.declared.desk.Chair.{Chair}
use Rattle.mq_turns.specs.declared.desk.Desk.{Desk}
use Rattle.mq_turns.specs.declared.machine.Machine.{Ghosts as MachineGhosts}
use Rattle.mq_tie.specs.Runs.{IsRun, ports_of}
use Rattle.mq_tie.specs.declared.closing.Unclosed.{Unclosed}
use Rattle.mq_tie.specs.declared.closing.Unclosed.TheVariants as unclosed
use Rattle.mq_tie.specs.declared.ended.Ended.{Ended}

module _ {P E : Type 0} {G : Ghosts P} (state : P → PortState) (faults : P → List PortFault)
    (group : GroupView E) where
  -- A desk that was opened so, with chairs of these views, has ended with the values of the run: it is what
  -- is said of a run by what was known together at the end. The sides have the ports and the done numbers.
  pub record HasRun (o : Start P E G) (views : List (Seat P E G)) (r : Ended P E G) : Type 0 where
    pub sides : List (QueueSide P E G)
    pub end : DeskEnded (journal state faults group) o views r.pages.items sides r.root r.next r.base
    pub ports : ports_of r ≡ map (λ s. s.pmr.port) sides
    pub done : r.done.items ≡ map (λ s. s.done) sides
    pub run : IsRun state faults group end.known views r

module _ {M P Q R E : Type 0} (μ : Meaning P Q R E) where
  -- the desk stands as it was, with its chairs; or it has ended with these values
  abbrev pub StaysOpen : {g : MachineGhosts M P Q R E} → Desk M P Q R E → List (Chair M P Q R E g)
      → Unclosed M P Q R E g → Type 0
  StaysOpen desk chairs (unclosed.Desk d cs) = (d ≡ desk) × (cs.items ≡ chairs)
  StaysOpen desk chairs (unclosed.Parts p) =
      DeskEnded μ (start_of desk)
      (map (λ c. view c) chairs) p.pages.items p.sides.items p.root p.next p.base
