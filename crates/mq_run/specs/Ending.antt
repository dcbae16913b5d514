-- The end of a run: one session hears of all that the others know, and makes a checkpoint.
use Rattle.std.specs.Prelude.{◌≡◌, ◌≤◌, ℕ, Bool, true, false, List, ◌∷◌, Option, None, Some, Result, Ok, Err}
use Rattle.mq_blocks.specs.Drive.{PortState}
use Rattle.mq_journal.specs.Raised.{HasRefused, Raises}
use Rattle.mq_journal.specs.declared.refusal.CheckpointRefusal.{CheckpointRefusal}
use Rattle.mq_drive.specs.Steps.{PortFault}
use Rattle.mq_drive.specs.declared.port.Port.{Ghosts}
use Rattle.mq_calls.specs.Group.{file_group}
use Rattle.mq_calls.specs.declared.entry.FileEntry.{FileEntry}
use Rattle.mq_journal.specs.Numbers.{Seat}
use Rattle.mq_turns.specs.Desk.{Below}
use Rattle.mq_turns.specs.Lists.{Each}

-- a checkpoint was made at the end just where one was asked for
abbrev pub IsAskedFor : Bool → Option (Result ℕ CheckpointRefusal) → Type 0
IsAskedFor true None = ⊥
IsAskedFor true (Some answer) = Unit {0}
IsAskedFor false None = Unit {0}
IsAskedFor false (Some answer) = ⊥

module _ {P : Type 0} {G : Ghosts P} where
  -- It knows of each number that one of the others had seen or drawn, and of no lesser one than before;
  -- nothing else of it has changed.
  pub record HasHeard (others : List (Seat P FileEntry G)) (old new : Seat P FileEntry G) : Type 0 where
    pub is : new ≡ record old { seen = new.seen }
    pub later : old.seen ≤ new.seen
    pub each : Each (λ v. Below new.seen v) others

module _ {P : Type 0} {G : Ghosts P} (state : P → PortState) (faults : P → List PortFault) where
  -- what the checkpoint at the end answered, where one was asked for
  abbrev pub Finishes : Option (Result ℕ CheckpointRefusal) → List (Seat P FileEntry G)
      → Seat P FileEntry G → Seat P FileEntry G → Type 0
  Finishes None others old new = new ≡ old
  Finishes (Some (Ok base)) others old new =
      (between : Seat P FileEntry G) × HasHeard others old between
      × Raises state faults file_group base between new
  Finishes (Some (Err why)) others old new =
      (between : Seat P FileEntry G) × HasHeard others old between
      × HasRefused state faults file_group why between new

  -- what this leaves of what all sessions knew
  pub record HasFinished (finish : Bool) (answer : Option (Result ℕ CheckpointRefusal))
      (old new : List (Seat P FileEntry G)) : Type 0 where
    pub asked : IsAskedFor finish answer
    pub first : Seat P FileEntry G
    pub last : Seat P FileEntry G
    pub others : List (Seat P FileEntry G)
    pub before : old ≡ first ∷ others
    pub after : new ≡ last ∷ others
    pub finishes : Finishes answer others first last
