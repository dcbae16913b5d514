-- What a checkpoint has done once the base is raised.
use Rattle.std.specs.Prelude.{◌≡◌, ◌⊎◌, ◌<◌, ◌≤◌, ℕ, List, [], ◌∷◌, ◌++◌}
use Rattle.mq_blocks.specs.Drive.{PortState, IsBoundKept}
use Rattle.mq_desk_laws.specs.Bases.{BaseOk, RootStands}
use Rattle.mq_drive.specs.Steps.{PortFault}
use Rattle.mq_drive.specs.declared.port.Port.{Ghosts}
use Rattle.mq_journal.specs.Numbers.{Seat, Shared, values}
use Rattle.mq_ledger.specs.KnownJournal.{KnownJournal}
use Rattle.mq_pages.specs.declared.page.PageCell.{PageCell}
use Rattle.mq_desk_laws.specs.Groups.{GroupView}
use Rattle.mq_desk_laws.specs.Rule.{IsOk, IsRoot}
use Rattle.mq_queue_side.specs.Roots.{after_raise}
use Rattle.mq_queue_side.specs.declared.root.Root.{Root}
use Rattle.mq_turns.specs.Desk.{Below}
use Rattle.mq_turns.specs.Meaning.{raised}
use Rattle.mq_turns.specs.declared.rule.MarkAnswer.TheVariants.{Front}
use Rattle.mq_journal.specs.Steps.{IsKnownFrom, RefusesCheckpoint}
use Rattle.mq_journal.specs.declared.refusal.CheckpointRefusal.{CheckpointRefusal}

-- Whatever is known, by which this is a base: a root that stood before stands after. The port keeps its
-- fuse, and the same of its home writes fails.
pub record KeepsStanding (base : ℕ) (old new : PortState) : Type 0 where
  pub stands : (k : KnownJournal) → BaseOk k base → RootStands k old → RootStands k new
  pub bound : IsBoundKept old new

-- The root's flushed base has come to this one. Either it was there before, and the root is as it was, with
-- its port: nothing was stored and nothing flushed. Or it was below, and the port has stored this base and
-- flushed it, once each, and done nothing else.
abbrev pub HasRaised : {P : Type 0} {G : Ghosts P} → (P → PortState) → (base : ℕ) → Root P G → Root P G
    → Type 0
HasRaised state base old new =
    (((state old.port).base ≡ base) × (new ≡ old))
    ⊎ (((state old.port).base < base) × (state new.port ≡ after_raise (state old.port) base))

module _ {P E : Type 0} {G : Ghosts P} (state : P → PortState) (faults : P → List PortFault)
    (group : GroupView E) where
  -- By what was known then, the session took the root as it lay there. It gave it back with this base
  -- flushed, which was stored and flushed just where the root's was below it. At a moment between, the word
  -- was raised to it: so the root is what the rule says.
  pub record IsRaisedTo (base : ℕ) (v : Seat P E G) : Type 0 where
    pub taken : Shared P E G
    pub from : IsKnownFrom state faults group v taken
    pub before : Root P G
    pub lay : IsRoot (values state faults group) group taken before
    pub known : Shared P E G
    pub since : IsKnownFrom state faults group v known
    pub ok : IsOk (values state faults group) group (raised base known)
    pub root : Root P G
    pub raise : HasRaised state base before root
    pub flushed : (state root.port).base ≡ base
    pub stood : IsRoot (values state faults group) group (raised base known) root

  -- The base has come to this one. Nothing else of the session has changed, but that it has no slot in hand.
  pub record IsStored (base : ℕ) (old new : Seat P E G) : Type 0 where
    pub raised_to : IsRaisedTo base old
    pub is : new ≡ record old { hand = 0; reading = record old.reading { base = base } }

  -- The base has come to this one, on the root's port and on the desk; the port stored and flushed it just
  -- where its own was below it. It is not below any number that the session had seen or drawn before, nor
  -- below the front, which was read once and before the first page. Nothing was reported. The session may
  -- know of greater numbers, drawn and done, and has noted pages; all else of it is as it was.
  pub record Raises (base : ℕ) (old new : Seat P E G) : Type 0 where
    pub seen : Below base old
    pub front : ℕ
    pub read : new.reading.answers ≡ Front front ∷ old.reading.answers
    pub reached : front ≤ base
    pub raised_to : IsRaisedTo base old
    pub word : new.reading.base ≡ base
    pub parts : new.parts ≡ old.parts
    pub opening : new.opening ≡ old.opening
    pub session : new.session ≡ old.session
    pub held : new.held ≡ old.held
    pub drawn : new.drawn ≡ old.drawn
    pub read_before : new.read ≡ old.read
    pub later : old.seen ≤ new.seen
    pub done : old.reading.done ≤ new.reading.done
    pub charged : new.reading.charged ≡ old.reading.charged
    pub noted : List (ℕ × PageCell × Shared P E G)
    pub pages : new.reading.pages ≡ noted ++ old.reading.pages

  -- It was refused before its front was read, or after.
  abbrev pub HasRefused : CheckpointRefusal → Seat P E G → Seat P E G → Type 0
  HasRefused r old new =
      RefusesCheckpoint state faults group [] r old new
      ⊎ ((front : ℕ) × RefusesCheckpoint state faults group (Front front ∷ []) r old new)
