-- A call of a session, and what the session has called before.
use Rattle.std.specs.Prelude.{◌≡◌, ◌<◌, ◌≤◌, ℕ, Bool, List, [], ◌∷◌, length}
use Rattle.mq_blocks.specs.Geometry.{homes_of, queues_of}
use Rattle.mq_blocks.specs.declared.geometry.Geometry.{Geometry}
use Rattle.mq_desk_laws.specs.Groups.{GroupView}
use Rattle.mq_drive.specs.declared.port.Port.{Ghosts}
use Rattle.mq_journal.specs.Numbers.{Seat, Shared}
use Rattle.mq_pages.specs.Held.{HeldCells}
use Rattle.mq_turns.specs.Lists.{Each}
use Rattle.mq_turns.specs.Meaning.{newest}
use Rattle.mq_sessions.specs.declared.asked.Asked.{Asked}

-- A call of a session: the session's number, how many calls it made before, whether the caller waits until
-- the group is done, and what is asked.
pub record Call (Req : Type 0) : Type 0 where
  pub session : ℕ
  pub count : ℕ
  pub durable : Bool
  pub requests : List Req

module _ {Req : Type 0} where
  abbrev pub call_by : (session calls : ℕ) → (durable : Bool) → List Req → Call Req
  call_by session calls durable requests =
      record { session = session; count = calls; durable = durable; requests = requests }

  abbrev pub call_of : Asked Req → Call Req
  call_of a = call_by a.queue a.calls a.durable a.requests.now

module _ {P E : Type 0} {G : Ghosts P} (group : GroupView E) where
  -- each group that it has drawn or read is of one of its first `calls` calls
  pub record HasCalled (calls : ℕ) (v : Seat P E G) : Type 0 where
    pub drawn : Each (λ d. group.call d.1 < calls) v.drawn
    pub read : Each (λ r. group.call r.0 < calls) v.read
    pub few : length v.drawn ≤ calls

  -- It has the number of a queue, holds no turn and no cell, and has room for the cells of all home blocks.
  pub record IsReady (g : Geometry) (session calls : ℕ) (cells : HeldCells) (v : Seat P E G) : Type 0 where
    pub queue : session < queues_of g
    pub own : v.session ≡ session
    pub idle : v.held ≡ []
    pub called : HasCalled calls v
    pub none : cells.cells ≡ []
    pub room : homes_of g ≤ cells.room

  -- the session whose queue this is asks it as its next call
  pub record IsAsking {Req : Type 0} (g : Geometry) (a : Asked Req) (v : Seat P E G) : Type 0 where
    pub queue : a.queue < queues_of g
    pub own : v.session ≡ a.queue
    pub called : HasCalled a.calls v

module _ {P E : Type 0} {G : Ghosts P} where
  -- The session has read the entry at the number, the newest then, and holds no turn any more. Nothing else
  -- of it has changed.
  pub record Looked (e : E) (at : ℕ) (old new : Seat P E G) : Type 0 where
    pub known : Shared P E G
    pub number : newest known ≡ at
    pub above : old.seen ≤ at
    pub is : new ≡ record old { seen = at; hand = 0; held = []; read = (e, known) ∷ old.read }
