-- What the steps of a checkpoint leave of a session, and why one is refused.
use Rattle.std.specs.Prelude.{◌≡◌, ◌≤◌, ℕ, List, [], ◌∷◌, ◌++◌, Option, Some, None}
use Rattle.mq_blocks.specs.Drive.{PortState}
use Rattle.mq_drive.specs.Steps.{PortFault}
use Rattle.mq_drive.specs.declared.port.Port.{Ghosts}
use Rattle.mq_journal.specs.Draining.{report_of}
use Rattle.mq_journal.specs.Numbers.{Seat, Shared}
use Rattle.mq_journal.specs.Values.{side_values}
use Rattle.mq_pages.specs.declared.page.PageCell.{PageCell}
use Rattle.mq_desk_laws.specs.Groups.{GroupView}
use Rattle.mq_desk_laws.specs.Rule.{IsOfRoot, IsOk, IsRoot, IsSide}
use Rattle.mq_queue_side.specs.Drained.{Rises}
use Rattle.mq_queue_side.specs.declared.answers.Cause.{Cause}
use Rattle.mq_queue_side.specs.declared.answers.Cause.TheVariants as cause
use Rattle.mq_queue_side.specs.declared.answers.Why.{Why}
use Rattle.mq_queue_side.specs.declared.root.Root.{Root}
use Rattle.mq_queue_side.specs.declared.side.QueueSide.{QueueSide}
use Rattle.mq_turns.specs.Lists.{Each}
use Rattle.mq_turns.specs.Meaning.{HasNumberAt, newest}
use Rattle.mq_turns.specs.declared.rule.MarkAnswer.{MarkAnswer}
use Rattle.mq_turns.specs.declared.rule.Charge.{Charge}
use Rattle.mq_turns.specs.declared.turn.Turn.{Turn}
use Rattle.mq_turns.specs.declared.turn.Turn.TheVariants.{Side}
use Rattle.mq_turns.specs.declared.turn.Turn.TheVariants as turn
use Rattle.mq_journal.specs.declared.refusal.CheckpointRefusal.{CheckpointRefusal}
use Rattle.mq_journal.specs.declared.refusal.CheckpointRefusal.TheVariants as refused

module _ {P E : Type 0} {G : Ghosts P} where
  -- The session reported this, and was answered these fronts. It may know of greater numbers, drawn and
  -- done, and may have noted pages. What it is, what it drew, what it read and the base that it knows of
  -- stay; of the turns that it holds nothing is said.
  pub record MovesOn (reports : List Charge) (fronts : List MarkAnswer)
      (old new : Seat P E G) : Type 0 where
    pub parts : new.parts ≡ old.parts
    pub opening : new.opening ≡ old.opening
    pub session : new.session ≡ old.session
    pub drawn : new.drawn ≡ old.drawn
    pub read : new.read ≡ old.read
    pub seen : old.seen ≤ new.seen
    pub done : old.reading.done ≤ new.reading.done
    pub base : new.reading.base ≡ old.reading.base
    pub noted : List (ℕ × PageCell × Shared P E G)
    pub pages : new.reading.pages ≡ noted ++ old.reading.pages
    pub answers : new.reading.answers ≡ fronts ++ old.reading.answers
    pub charged : new.reading.charged ≡ reports ++ old.reading.charged

-- A port that was refused has gained faults in the call, or has as many as a count of 64 bits can say; of a
-- failure that stopped a queue before, the side had kept it.
abbrev pub IsCauseOf : Cause → Option (ℕ × Why) → List PortFault → List PortFault → Type 0
IsCauseOf cause.Off kept old new = Rises old new
IsCauseOf (cause.Failed tx status) kept old new = Rises old new
IsCauseOf (cause.FailedHome block status) kept old new = Rises old new
IsCauseOf (cause.Stopped tx why) kept old new = kept ≡ Some (tx, why)

module _ {P E : Type 0} {G : Ghosts P} (state : P → PortState) (faults : P → List PortFault)
    (group : GroupView E) where
  -- This may have been known on the session's desk from then on: it is by the rule of the desk, no number
  -- that the session had seen or heard of is above it, and each group that the session had drawn is in it
  -- with its number.
  pub record IsKnownFrom (v : Seat P E G) (K : Shared P E G) : Type 0 where
    pub opening : v.opening ≡ Some K.opening
    pub ok : IsOk (side_values state faults) group K
    pub seen : v.seen ≤ newest K
    pub drew : Each (λ d. HasNumberAt K.opening.base K.log d.0 d.1) v.drawn

  -- By what was known since then, a side or the root that the session held is what lies there, and its port
  -- came to this refusal.
  pub data IsCaused (v : Seat P E G) : Turn → Cause → Type 0 where
    at_side : {q : ℕ} {c : Cause} (K : Shared P E G) (s after : QueueSide P E G) → IsKnownFrom v K
        → IsSide (side_values state faults) group q K s
        → IsCauseOf c s.kept (faults s.pmr.port) (faults after.pmr.port) → IsCaused v (Side q) c
    at_root : {c : Cause} (K : Shared P E G) (r after : Root P G) → IsOfRoot (report_of c)
        → IsKnownFrom v K → IsRoot (side_values state faults) group K r
        → IsCauseOf c None (faults r.port) (faults after.port) → IsCaused v turn.Root c

  -- The drive refused a call on a port whose turn the session held: that alone was reported.
  pub record IsRefusedBy (fronts : List MarkAnswer) (c : Cause) (old new : Seat P E G) : Type 0 where
    pub port : Turn
    pub moves : MovesOn (record { port = port; report = report_of c } ∷ []) fronts old new
    pub caused : IsCaused old port c

  -- If memory runs out, nothing is reported.
  abbrev pub RefusesCheckpoint : List MarkAnswer → CheckpointRefusal → Seat P E G → Seat P E G → Type 0
  RefusesCheckpoint fronts refused.OutOfMemory old new = MovesOn [] fronts old new
  RefusesCheckpoint fronts (refused.Drive c) old new = IsRefusedBy fronts c old new
