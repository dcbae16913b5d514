-- The port that has a home block, the side of a queue or the root: a page is written home by it, and a
-- refusal is reported of it.
use Rattle.std.specs.Prelude.{◌≡◌, ℕ, List, Option, Some, None, Result, Ok, Err}
use Rattle.mq_blocks.specs.Drive.{IsHome, PortState}
use Rattle.mq_drive.specs.Steps.{HomeGives, PortFault}
use Rattle.mq_drive.specs.declared.port.HomeStep.{HomeStep}
use Rattle.mq_drive.specs.declared.port.HomeStep.TheVariants as home
use Rattle.mq_drive.specs.declared.port.Off.{Off}
use Rattle.mq_drive.specs.declared.port.Port.{Ghosts}
use Rattle.mq_journal.specs.Draining.{report_of}
use Rattle.mq_journal.specs.Numbers.{Seat, Shared, Start, machine}
use Rattle.mq_pages.specs.declared.page.PageCell.{PageCell}
use Rattle.mq_desk_laws.specs.Groups.{GroupView}
use Rattle.mq_queue_side.specs.Counts.{KeepsCount}
use Rattle.mq_queue_side.specs.Homes.{RootStaysAt, StaysAt}
use Rattle.mq_queue_side.specs.Side.{side_state}
use Rattle.mq_queue_side.specs.Told.{KeepsTold}
use Rattle.mq_queue_side.specs.declared.answers.Cause.{Cause}
use Rattle.mq_queue_side.specs.declared.answers.Cause.TheVariants as cause
use Rattle.mq_queue_side.specs.declared.root.Root.{Root}
use Rattle.mq_queue_side.specs.declared.side.QueueSide.{QueueSide}
use Rattle.mq_turns.specs.Chairs.{giving}
use Rattle.mq_turns.specs.Desk.{Sees, Stands, slot_of}
use Rattle.mq_turns.specs.Meaning.{charged}
use Rattle.mq_turns.specs.Words.{after_notice}
use Rattle.mq_turns.specs.declared.rule.Charge.{Charge}
use Rattle.mq_turns.specs.declared.rule.Notice.TheVariants as notice
use Rattle.mq_turns.specs.declared.turn.Item.{Item}
use Rattle.mq_turns.specs.declared.turn.Item.TheVariants as item
use Rattle.mq_turns.specs.declared.turn.Turn.{Turn}
use Rattle.mq_turns.specs.declared.turn.Turn.TheVariants as turn

-- the turn of the port that has a zone, or the metadata region
abbrev pub port_of : Option ℕ → Turn
port_of (Some q) = turn.Side q
port_of None = turn.Root

-- what a home write of the block came to, as a checkpoint answers it
abbrev pub answer_of : ℕ → Result HomeStep Off → Result (Unit {0}) Cause
answer_of b (Ok home.Done) = Ok tt
answer_of b (Ok (home.Error status)) = Err (cause.FailedHome b status)
answer_of b (Err _) = Err cause.Off

-- a refusal, as it is reported of the port under the turn
abbrev pub charge_of : Turn → Cause → Charge
charge_of t c = record { port = t; report = report_of c }

-- what lies under a turn is a port, and the block is one of it
abbrev pub IsHomeOf : {M P E : Type 0} {G : Ghosts P} → (P → PortState)
    → Item M PageCell (QueueSide P E G) (Root P G) E → ℕ → Type 0
IsHomeOf state (item.Page p) lba = ⊥
IsHomeOf state (item.Side s) lba = IsHome (state s.pmr.port) lba
IsHomeOf state (item.Root r) lba = IsHome (state r.port) lba

module _ {P : Type 0} {G : Ghosts P} (state : P → PortState) (faults : P → List PortFault)
    (lba : ℕ) (copy : List ℕ) (r : Result HomeStep Off) where
  -- The root has written a home block.
  pub record WritesByRoot (old new : Root P G) : Type 0 where
    pub gives : HomeGives (state old.port) (faults old.port) lba copy r (state new.port) (faults new.port)
    pub stays : RootStaysAt lba (state old.port) (state new.port)

  module _ {E : Type 0} where
    -- A side has written one. What it has stored, and the failure that it has kept, stay.
    pub record WritesBySide (old new : QueueSide P E G) : Type 0 where
      pub gives : HomeGives (state old.pmr.port) (faults old.pmr.port) lba copy r
          (state new.pmr.port) (faults new.pmr.port)
      pub stays : StaysAt lba (side_state state faults old) (side_state state faults new)
      pub counts : KeepsCount (side_state state faults old) (side_state state faults new)
      pub told : KeepsTold (side_state state faults old) (side_state state faults new)
      pub kept : new.kept ≡ old.kept
      pub stored : new.stored ≡ old.stored
      pub own : (new.pmr.geometry ≡ old.pmr.geometry) × (new.pmr.queue ≡ old.pmr.queue)

    module _ {M : Type 0} where
      -- What lay under a turn was the root or a side, and has written one.
      pub data WritesHome : (old new : Item M PageCell (QueueSide P E G) (Root P G) E) → Type 0 where
        by_side : (old new : QueueSide P E G) → WritesBySide old new
            → WritesHome (item.Side old) (item.Side new)
        by_root : (old new : Root P G) → WritesByRoot old new
            → WritesHome (item.Root old) (item.Root new)

module _ {P E : Type 0} {G : Ghosts P} (state : P → PortState) (faults : P → List PortFault)
    (group : GroupView E) where
  -- Whatever is known: with the charge, what lies under the turn is what the rule says.
  abbrev pub ShowsCharge : {M : Type 0} → Charge → Item M PageCell (QueueSide P E G) (Root P G) E
      → Seat P E G → Type 0
  ShowsCharge c x v =
      (K : Shared P E G) → Sees (machine state faults group) v K
      → Stands (machine state faults group) c.port (charged c K) x

  -- It was reported of the port, and the turn was given back.
  pub record IsCharged (o : Start P E G) (c : Charge) (old new : Seat P E G) : Type 0 where
    pub known : Shared P E G
    pub sees : Sees (machine state faults group) old known
    pub is : new
        ≡ giving (slot_of o c.port) (after_notice (machine state faults group) (notice.Charge c) known old)
