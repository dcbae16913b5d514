-- Groups of requests of one kind: what they come to, on the pages that a session holds and on a map.
use Rattle.std.specs.Prelude.{◌≡◌, ◌≢◌, ◌⊎◌, ◌<◌, ◌≤◌, ◌+◌, ℕ, List, [], length, map, Option, Some, None}
use Rattle.std.specs.List.{All, AllPairs, Contains}
use Rattle.mq_blocks.specs.Geometry.{homes_of, queues_of, write_limit}
use Rattle.mq_blocks.specs.Descriptor.{AreRising}
use Rattle.mq_blocks.specs.Journal.{number_limit}
use Rattle.mq_blocks.specs.Machine.{Map}
use Rattle.mq_blocks.specs.declared.geometry.Geometry.{Geometry}
use Rattle.mq_desk_laws.specs.Groups.{GroupView}
use Rattle.mq_desk_laws.specs.Rule.{DeskState, Fits, May, core_of, geometry_of, map_now}
use Rattle.mq_desk_laws.specs.Meaning.{meaning}
use Rattle.mq_desk_laws.specs.Values.{Values}
use Rattle.mq_drive.specs.declared.port.Port.{Ghosts}
use Rattle.mq_journal.specs.Numbers.{Seat}
use Rattle.mq_ledger.specs.KnownJournal.{KnownJournal, front}
use Rattle.mq_ledger.specs.declared.tx.Tx.{Tx}
use Rattle.mq_pages.specs.Held.{Cells}
use Rattle.mq_pages.specs.declared.page.PageCell.{PageCell}
use Rattle.mq_pages.specs.declared.page.Write.{Write}
use Rattle.mq_revoke.specs.Placed.{Placed}
use Rattle.mq_revoke.specs.Placing.{IsPlacement}
use Rattle.mq_turns.specs.Desk.{Sees}
use Rattle.mq_turns.specs.Meaning.{newest}
use Rattle.mq_turns.specs.declared.rule.ChairView.{ChairView}
use Rattle.mq_sessions.specs.Calls.{Call, Looked}
use Rattle.mq_sessions.specs.Drawn.{Changes, blocks_in, tx_by}
use Rattle.mq_sessions.specs.Pages.{held_pages}
use Rattle.mq_sessions.specs.Plans.{planned_by}
use Rattle.mq_sessions.specs.declared.executor.Outcome.{Outcome}
use Rattle.mq_sessions.specs.declared.reads.Reads.{Reads}
use Rattle.mq_sessions.specs.declared.executor.Outcome.TheVariants.{Done, Need}

-- How a group of these requests is read, and what it came to.
pub record CallView (E Req Rep D : Type 0) : Type 1 where
  -- its replies, and what it writes and frees
  pub replies : D → List Rep
  pub writes : D → List Write
  pub frees : D → List ℕ
  -- the group of the queue's session is done so, as far as the held pages say
  pub on_cells : Geometry → (queue : ℕ) → Cells → List Req → D → Type 0
  -- it is done so on the map
  pub on_map : Geometry → (queue : ℕ) → Map → List Req → D → Type 0
  -- the entry is of this call and of what its group came to
  pub entry_for : Call Req → D → E → Type 0
  -- the entry is that of a group that is not drawn
  pub undrawn : E → Type 0
  -- the entry is of this call, with these replies
  pub of_call : Call Req → List Rep → E → Type 0
  -- what the entry says that its group writes and frees, where its writes go, and by which front and base they
  -- were placed
  pub written : E → List Write
  pub freed : E → List ℕ
  pub placed : E → Placed
  pub reads : E → Reads

-- a group that is not drawn changes nothing, or more than one transaction may
abbrev pub IsUndrawn : Geometry → List Write → List ℕ → Type 0
IsUndrawn g writes frees = ((writes ≡ []) × (frees ≡ [])) ⊎ (write_limit g < length writes)

-- ---- held pages

-- they are those of the map
abbrev pub AgreesWith : Cells → Map → Type 0
AgreesWith cells m = (b : ℕ) (page : Option (List ℕ)) → held_pages cells b ≡ Some page → m b ≡ page

-- of some map on which groups run
abbrev pub IsPossible : (Geometry → Map → Type 0) → Geometry → Cells → Type 0
IsPossible good g cells = (m : Map) × good g m × AgreesWith cells m

-- of each block that is written or freed the page is held
pub record AreKnown (cells : Cells) (writes : List Write) (frees : List ℕ) : Type 0 where
  pub written : (x : Write) → Contains writes x → held_pages cells x.block ≢ None
  pub freed : (b : ℕ) → Contains frees b → held_pages cells b ≢ None

-- absent home blocks, at least one, in rising order
pub record AreMissing (g : Geometry) (cells : Cells) (blocks : List ℕ) : Type 0 where
  pub some : 1 ≤ length blocks
  pub absent : All (λ b. held_pages cells b ≡ None) blocks
  pub rise : AllPairs (λ b c. b < c) blocks
  pub homes : All (λ b. b < homes_of g) blocks

module _ {E Req Rep D : Type 0} (calls : CallView E Req Rep D) where
  -- what a group comes to on held pages: it is done so, or these are missing
  abbrev pub Answers : Geometry → (queue : ℕ) → Cells → List Req → Outcome D → Type 0
  Answers g q cells requests (Done done) = calls.on_cells g q cells requests done
  Answers g q cells requests (Need blocks) = AreMissing g cells blocks.items

  -- Where the held pages are those of a map on which groups run, what is said of the pages is so on the map,
  -- and the page of each block that the group changes is held.
  abbrev pub DoneGroupsAreOnMaps : (good : Geometry → Map → Type 0) → Type 0
  DoneGroupsAreOnMaps good =
      (g : Geometry) (queue : ℕ) (cells : Cells) (m : Map) (requests : List Req) (done : D)
      → good g m
      → AgreesWith cells m
      → calls.on_cells g queue cells requests done
      → AreKnown cells (calls.writes done) (calls.frees done) × calls.on_map g queue m requests done

module _ {E Req Rep D : Type 0} (group : GroupView E) (calls : CallView E Req Rep D) where
  -- An entry is of the session that called, and of its place among the session's calls.
  abbrev pub EntriesAreOfCalls : Type 0
  EntriesAreOfCalls =
      (c : Call Req) (done : D) (e : E)
      → calls.entry_for c done e
      → (group.session e ≡ c.session) × (group.call e ≡ c.count)

  -- An entry of a call with these replies is so too: of its session, and of its place among the session's calls.
  abbrev pub AnswersAreOfCalls : Type 0
  AnswersAreOfCalls =
      (c : Call Req) (replies : List Rep) (e : E)
      → calls.of_call c replies e
      → (group.session e ≡ c.session) × (group.call e ≡ c.count)

module _ {E Req Rep D : Type 0} (group : GroupView E) (calls : CallView E Req Rep D) where
  -- Whatever pages are held, of a map on which groups run, the group of the session neither writes nor frees.
  abbrev pub ChangesNothing : Geometry → (queue : ℕ) → List Req → Type 0
  ChangesNothing g queue requests =
      (cells : Cells) (done : D)
      → IsPossible group.good g cells
      → calls.on_cells g queue cells requests done
      → (calls.writes done ≡ []) × (calls.frees done ≡ [])

  -- what a group writes, it writes by rising home block
  abbrev pub DoneGroupsRise : Type 0
  DoneGroupsRise =
      (g : Geometry) (queue : ℕ) (m : Map) (requests : List Req) (done : D)
      → calls.on_map g queue m requests done
      → AreRising 0 (homes_of g) (blocks_in (calls.writes done))

  -- The entry says what the group came to: its transaction writes and frees just that, as the entry places it.
  pub record Tells (c : Call Req) (done : D) (e : E) : Type 0 where
    pub session : group.session e ≡ c.session
    pub call : group.call e ≡ c.count
    pub of_call : calls.of_call c (calls.replies done) e
    pub written : calls.written e ≡ calls.writes done
    pub freed : calls.freed e ≡ calls.frees done
    pub tx : group.tx e ≡ tx_by 0 c.session (calls.placed e) (calls.writes done) (calls.frees done)

  abbrev pub EntriesTell : Type 0
  EntriesTell = (c : Call Req) (done : D) (e : E) → calls.entry_for c done e → Tells c done e

  -- The blocks of the entry are placed by the rule, with the front and the base that it was read by.
  abbrev pub IsPlacedBy : Geometry → Map → ℕ → List Tx → E → Type 0
  IsPlacedBy g start base txs e =
      IsPlacement g (group.session e) (calls.reads e).front (calls.reads e).base
      (map (planned_by start base txs) (calls.written e)) (calls.placed e)

  -- They are so by what is known. What was read may have been read earlier.
  pub record IsPlannedBy (k : KnownJournal) (e : E) : Type 0 where
    pub few : length (calls.written e) ≤ write_limit k.geometry
    pub front_low : (calls.reads e).front ≤ front k
    pub base_low : (calls.reads e).base ≤ k.word
    pub placed : IsPlacedBy k.geometry k.start k.base k.history e

module _ {Q R E Req Rep D : Type 0} (values : Values Q R E) (group : GroupView E) (calls : CallView E Req Rep D) where
  -- The page of each block that the group changes is held, and whatever is known by now, the group is done
  -- so on the map at the newest number.
  pub record IsDoneNow (queue : ℕ) (requests : List Req) (cells : Cells) (v : ChairView PageCell Q R E)
      (done : D) : Type 0 where
    pub known : AreKnown cells (calls.writes done) (calls.frees done)
    pub does : (K : DeskState values group) → Sees (meaning values group) v K
        → calls.on_map (geometry_of values group K) queue (map_now values group K) requests done

  -- a group that is done on the map at the newest number, and is not drawn, may be read there
  abbrev pub UndrawnGroupsFit : Type 0
  UndrawnGroupsFit =
      (K : DeskState values group) (c : Call Req) (done : D) (e : E)
      → calls.on_map (geometry_of values group K) c.session (map_now values group K) c.requests done
      → calls.entry_for c done e
      → c.session < queues_of (geometry_of values group K)
      → IsUndrawn (geometry_of values group K) (calls.writes done) (calls.frees done)
      → calls.undrawn e
      → Fits values group e K

  -- a group that is done on the map at the newest number, and placed by what is known, may be drawn there
  abbrev pub DoneGroupsMay : Type 0
  DoneGroupsMay =
      (K : DeskState values group) (c : Call Req) (done : D) (e : E)
      → calls.on_map (geometry_of values group K) c.session (map_now values group K) c.requests done
      → calls.entry_for c done e
      → Changes (calls.writes done) (calls.frees done)
      → c.session < queues_of (geometry_of values group K)
      → newest K + 1 ≤ number_limit
      → IsPlannedBy group calls (core_of values group K) e
      → May values group e K

module _ {P E Req Rep D : Type 0} {G : Ghosts P} (calls : CallView E Req Rep D) where
  -- The session has read the group of this call, which came to this, and holds no turn any more.
  pub record IsReadOf (c : Call Req) (done : D) (at : ℕ) (old new : Seat P E G) : Type 0 where
    pub entry : E
    pub is : calls.entry_for c done entry
    pub looked : Looked entry at old new
