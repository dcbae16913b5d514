-- The sides of the queues are drained one after another, and the session sweeps over their marks.
use Rattle.std.specs.Prelude.{◌≡◌, ◌<◌, ◌≤◌, ℕ, List, ◌∷◌, Err}
use Rattle.mq_blocks.specs.Drive.{PortState}
use Rattle.mq_drive.specs.Steps.{PortFault}
use Rattle.mq_drive.specs.declared.port.Port.{Ghosts}
use Rattle.mq_desk_laws.specs.Groups.{GroupView}
use Rattle.mq_queue_side.specs.declared.answers.Cause.{Cause}
use Rattle.mq_queue_side.specs.declared.answers.Cause.TheVariants as cause
use Rattle.mq_turns.specs.Swept.{HasPassed}
use Rattle.mq_journal.specs.Draining.{WasDrained, report_of}
use Rattle.mq_journal.specs.Numbers.{ReadOn, Seat, reported}

-- where the refusal names the number of a transaction, it is one up to this
abbrev pub NamesUpto : ℕ → Cause → Type 0
NamesUpto at cause.Off = Unit {0}
NamesUpto at (cause.Failed tx status) = tx ≤ at
NamesUpto at (cause.FailedHome block status) = Unit {0}
NamesUpto at (cause.Stopped tx why) = tx ≤ at

module _ {P E : Type 0} {G : Ghosts P} (state : P → PortState) (faults : P → List PortFault)
    (group : GroupView E) where
  -- More may be known to be done. Nothing else of the session has changed but its sweep, and it has no slot
  -- in hand.
  pub record HasSwept (old new : Seat P E G) : Type 0 where
    pub is : new ≡ record old { hand = 0; reading = new.reading }
    pub reading : ReadOn state faults group old.reading new.reading

  -- Of `queues` queues the sides of the first ones are drained: all numbers of these up to `at` are done.
  -- Of the session, nothing but its hand and its reading has changed.
  pub record HasDrained (queues first at : ℕ) (old now : Seat P E G) : Type 0 where
    pub is : now ≡ record old { hand = now.hand; reading = now.reading }
    pub reading : ReadOn state faults group old.reading now.reading
    pub passed : HasPassed queues first at now.reading

  -- The sides of all queues below this one were drained, and the drain of its side came to the refusal,
  -- which is reported of its port. Nothing else of the session has changed, but that more may be known to
  -- be done.
  pub record WasRefused (queues at : ℕ) (cause : Cause) (old new : Seat P E G) : Type 0 where
    pub queue : ℕ
    pub below : queue < queues
    pub before : Seat P E G
    pub first : HasDrained queues queue at old before
    pub drained : WasDrained state faults group queue at before new (Err cause)
    pub is : new ≡ record old { hand = 0; reading = new.reading }
    pub done : old.reading.done ≤ new.reading.done
    pub base : new.reading.base ≡ old.reading.base
    pub pages : new.reading.pages ≡ old.reading.pages
    pub answers : new.reading.answers ≡ old.reading.answers
    pub charged : new.reading.charged ≡ reported queue (report_of cause) ∷ old.reading.charged
