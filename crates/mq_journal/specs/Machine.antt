-- The machine of a desk over queue sides and a root, for groups of any kind.
use Rattle.std.specs.Prelude.{List}
use Rattle.mq_blocks.specs.Drive.{PortState}
use Rattle.mq_drive.specs.Steps.{PortFault}
use Rattle.mq_drive.specs.declared.port.Port.{Ghosts}
use Rattle.mq_pages.specs.declared.page.PageCell.{PageCell}
use Rattle.mq_desk_laws.specs.Groups.{GroupView}
use Rattle.mq_desk_laws.specs.Meaning.{meaning}
use Rattle.mq_queue_side.specs.declared.root.Root.{Root}
use Rattle.mq_queue_side.specs.declared.side.QueueSide.{QueueSide}
use Rattle.mq_turns.specs.Meaning.{Meaning}
use Rattle.mq_journal.specs.Values.{side_values}

module _ {P E : Type 0} {G : Ghosts P} where
  abbrev pub journal : (P → PortState) → (P → List PortFault) → GroupView E
      → Meaning PageCell (QueueSide P E G) (Root P G) E
  journal state faults group = meaning (side_values state faults) group
