-- A group that was prepared is drawn and sent.
use Rattle.std.specs.Prelude.{◌≡◌, ◌<◌, ◌≤◌, ℕ, List, [], ◌∷◌}
use Rattle.mq_drive.specs.declared.port.Port.{Ghosts}
use Rattle.mq_journal.specs.Numbers.{Seat, reported}
use Rattle.mq_turns.specs.declared.rule.Report.{Report}
use Rattle.mq_turns.specs.declared.rule.Report.TheVariants.{Sent}
use Rattle.mq_blocks.specs.declared.geometry.Geometry.{Geometry}
use Rattle.mq_sessions.specs.Acts.{IsUnderWay}
use Rattle.mq_sessions.specs.Attempts.{Commits}
use Rattle.mq_sessions.specs.Calls.{Call}
use Rattle.mq_sessions.specs.Executors.{CallView}

module _ {P E : Type 0} {G : Ghosts P} where
  -- who the session is
  pub record SameSeat (old new : Seat P E G) : Type 0 where
    pub parts : new.parts ≡ old.parts
    pub opening : new.opening ≡ old.opening
    pub session : new.session ≡ old.session

  -- It has drawn the entry at the number, above all that it had seen, and reported this of the queue's
  -- port. It holds no turn any more, and may know of more that is done, but not that the number is.
  pub record HasDrawn (e : E) (q at : ℕ) (r : Report) (old new : Seat P E G) : Type 0 where
    pub seat : SameSeat old new
    pub held : new.held ≡ []
    pub drawn : new.drawn ≡ (at, e) ∷ old.drawn
    pub read : new.read ≡ old.read
    pub above : old.seen < at
    pub seen : new.seen ≡ at
    pub done : old.reading.done ≤ new.reading.done
    pub under : IsUnderWay q at new
    pub answers : new.reading.answers ≡ old.reading.answers
    pub charged : new.reading.charged ≡ reported q r ∷ old.reading.charged

module _ {P E Req Rep D : Type 0} {G : Ghosts P} (calls : CallView E Req Rep D) where
  -- what a group that changes something came to: it is a commit, and rung, at the newest number that the
  -- session knows of; and it is not known to be done
  abbrev pub IsCommitted : Geometry → Call Req → List Rep → (at : ℕ) → Seat P E G → Seat P E G → Type 0
  IsCommitted g c replies at old new =
      Commits calls g c replies at (Sent at) old new × (new.seen ≡ at) × IsUnderWay c.session at new
