-- What an attempt at the group of a call comes to, for groups of any kind.
use Rattle.std.specs.Prelude.{◌≡◌, ◌<◌, ◌≤◌, ℕ, Bool, true, false, List, [], ◌∷◌, length, map}
use Rattle.mq_blocks.specs.Drive.{PortState}
use Rattle.mq_blocks.specs.Geometry.{area_of, write_limit}
use Rattle.mq_blocks.specs.declared.geometry.Geometry.{Geometry}
use Rattle.mq_journal.specs.Raised.{Raises}
use Rattle.mq_journal.specs.Steps.{IsKnownFrom}
use Rattle.mq_desk_laws.specs.Groups.{GroupView}
use Rattle.mq_desk_laws.specs.Rule.{IsSide, core_of, history_of, map_now, start_of}
use Rattle.mq_drive.specs.Steps.{PortFault}
use Rattle.mq_drive.specs.declared.port.Port.{Ghosts}
use Rattle.mq_journal.specs.Draining.{report_of}
use Rattle.mq_journal.specs.Numbers.{Seat, Shared, reported}
use Rattle.mq_journal.specs.Values.{side_values}
use Rattle.mq_ledger.specs.KnownJournal.{front}
use Rattle.mq_pages.specs.declared.page.Write.{Write}
use Rattle.mq_queue_side.specs.Stored.{FitIs, rows_of}
use Rattle.mq_queue_side.specs.declared.answers.Cause.{Cause}
use Rattle.mq_queue_side.specs.declared.answers.Fit.TheVariants.{Area}
use Rattle.mq_queue_side.specs.declared.side.QueueSide.{QueueSide}
use Rattle.mq_revoke.specs.Placed.{Placed}
use Rattle.mq_revoke.specs.Placing.{IsPlacement}
use Rattle.mq_revoke.specs.declared.placement.Planned.{Planned}
use Rattle.mq_turns.specs.Lists.{times}
use Rattle.mq_turns.specs.Meaning.{newest}
use Rattle.mq_turns.specs.declared.rule.MarkAnswer.TheVariants.{Base, Front}
use Rattle.mq_turns.specs.declared.rule.Report.{Report}
use Rattle.mq_turns.specs.declared.rule.Report.TheVariants as report
use Rattle.mq_sessions.specs.Acts.{IsCaused, IsUnderWay, KeepsAll, Rests, WaitsForNone, WasCutAt}
use Rattle.mq_sessions.specs.Calls.{Call}
use Rattle.mq_sessions.specs.Drawn.{Changes}
use Rattle.mq_sessions.specs.Executors.{CallView}
use Rattle.mq_sessions.specs.Plans.{planned_by}
use Rattle.mq_sessions.specs.declared.reads.Reads.{Reads as WordsRead}

module _ {P E Req Rep D : Type 0} {G : Ghosts P} (calls : CallView E Req Rep D) where
  -- ---- a group that was done

  -- The session drew its group's entry at this number, which is above all that it had seen. The group
  -- writes no more than a transaction may; it was placed by the front and by the base that the call was
  -- answered; and this alone was reported.
  pub record Commits (g : Geometry) (c : Call Req) (replies : List Rep) (at : ℕ) (r : Report)
      (old new : Seat P E G) : Type 0 where
    pub entry : E
    pub is : calls.of_call c replies entry
    pub drawn : new.drawn ≡ (at, entry) ∷ old.drawn
    pub read : new.read ≡ old.read
    pub above : old.seen < at
    pub few : length (calls.written entry) ≤ write_limit g
    pub answers : new.reading.answers
        ≡ Base (calls.reads entry).base ∷ Front (calls.reads entry).front ∷ old.reading.answers
    pub charged : new.reading.charged ≡ reported c.session r ∷ old.reading.charged

  -- The session read its group's entry at this number, the newest at that moment and not below any that it
  -- had seen. Nothing was reported.
  pub record ReadsGroup (c : Call Req) (replies : List Rep) (at : ℕ) (e : E)
      (old new : Seat P E G) : Type 0 where
    pub is : calls.of_call c replies e
    pub known : Shared P E G
    pub number : newest known ≡ at
    pub drawn : new.drawn ≡ old.drawn
    pub read : new.read ≡ (e, known) ∷ old.read
    pub above : old.seen ≤ at
    pub answers : new.reading.answers ≡ old.reading.answers
    pub charged : new.reading.charged ≡ old.reading.charged

  -- It read a group that neither writes nor frees.
  pub record ReadsOnly (c : Call Req) (replies : List Rep) (at : ℕ)
      (old new : Seat P E G) : Type 0 where
    pub entry : E
    pub reads : ReadsGroup c replies at entry old new
    pub writes : calls.written entry ≡ []
    pub frees : calls.freed entry ≡ []

  -- The group is a commit in the history at the number, and rung; or it is a read there.
  abbrev pub Acts : Geometry → Call Req → (at : ℕ) → (drew : Bool) → List Rep → Seat P E G
      → Seat P E G → Type 0
  Acts g c at true replies old new = Commits g c replies at (report.Sent at) old new
  Acts g c at false replies old new = ReadsOnly c replies at old new

  -- ---- a group that was refused

  -- It read a group that writes more blocks than a transaction may.
  pub record IsTooLarge (g : Geometry) (c : Call Req) (count limit : ℕ)
      (old new : Seat P E G) : Type 0 where
    pub replies : List Rep
    pub at : ℕ
    pub entry : E
    pub reads : ReadsGroup c replies at entry old new
    pub limit_is : limit ≡ write_limit g
    pub count_is : count ≡ length (calls.written entry)
    pub above : limit < count

module _ {P E Req Rep D : Type 0} {G : Ghosts P} (state : P → PortState) (faults : P → List PortFault)
    (group : GroupView E) (calls : CallView E Req Rep D) where
  -- On the map at the newest number of what was known, the group of the call comes to this: it changes
  -- something, and writes no more than a transaction may.
  pub record IsDrawable (g : Geometry) (c : Call Req) (K : Shared P E G) (done : D) : Type 0 where
    pub does : calls.on_map g c.session (map_now (side_values state faults) group K) c.requests done
    pub changes : Changes (calls.writes done) (calls.frees done)
    pub few : length (calls.writes done) ≤ write_limit g

  -- By this, which was known at one moment since then, the group of the call was to be drawn, and the side of
  -- its queue refused so.
  pub record MeetsRefusal (g : Geometry) (c : Call Req) (known : Shared P E G) (v : Seat P E G) (why : Cause)
      : Type 0 where
    pub from : IsKnownFrom state faults group v known
    pub done : D
    pub drawable : IsDrawable g c known done
    pub caused : IsCaused state faults group known c.session why

  -- A port's refusal before the group, which was to be drawn, drew a number. It is charged to the port of
  -- the queue, and nothing else is. The session has seen every number that was known then.
  pub record Refuses (g : Geometry) (c : Call Req) (why : Cause) (old new : Seat P E G) : Type 0 where
    pub rests : Rests old new
    pub charged : new.reading.charged ≡ reported c.session (report_of why) ∷ old.reading.charged
    pub known : Shared P E G
    pub seen : newest known ≤ new.seen
    pub meets : MeetsRefusal g c known old why

  -- Its send was cut: the group is drawn, and its transaction may or may not survive. No queue was drained
  -- after that.
  pub record IsCut (g : Geometry) (c : Call Req) (at : ℕ) (old new : Seat P E G) : Type 0 where
    pub replies : List Rep
    pub commits : Commits calls g c replies at report.Off old new
    pub cut : WasCutAt state faults group old at
    pub under : IsUnderWay c.session at new

  -- ---- a call whose plan did not fit the journal area

  -- what the rule of placing asks of writes, on the map and the transactions of what is known
  abbrev pub planned_at : Shared P E G → List Write → List Planned
  planned_at K writes =
      map (planned_by (start_of (side_values state faults) group K.opening) K.opening.base
      (history_of (side_values state faults) group K)) writes

  -- By what was known the group of the call is drawable. The rule places what it writes so, by a front and a
  -- base that had been read.
  pub record IsPlacedAt (g : Geometry) (c : Call Req) (K : Shared P E G) (reads : WordsRead)
      (plan : Placed) : Type 0 where
    pub done : D
    pub is : IsDrawable g c K done
    pub front_low : reads.front ≤ front (core_of (side_values state faults) group K)
    pub base_low : reads.base ≤ K.word
    pub placed : IsPlacement g c.session reads.front reads.base (planned_at K (calls.writes done)) plan

  -- By this, which was known at one moment of the call, the plan of its group, made with the front and the
  -- base that the call was answered, does not fit the journal area of its queue: by that base there is no room
  -- for it beside what the side stores, which the session held. The base is not below the one that the session
  -- knew of, and a number that the session had drawn is above it.
  pub record LacksArea (g : Geometry) (c : Call Req) (known : Shared P E G) (old new : Seat P E G) : Type 0 where
    pub from : IsKnownFrom state faults group old known
    pub reads : WordsRead
    pub answers : new.reading.answers ≡ Base reads.base ∷ Front reads.front ∷ old.reading.answers
    pub plan : Placed
    pub placed : IsPlacedAt g c known reads plan
    pub side : QueueSide P E G
    pub is : IsSide (side_values state faults) group c.session known side
    pub lacks : FitIs (area_of g) reads.base (rows_of side.stored.items) (state side.pmr.port) plan Area
    pub later : old.reading.base ≤ reads.base
    pub number : ℕ
    pub drew : 0 < times number old.drawn
    pub above : reads.base < number

  -- The plan of the group does not fit the area of its queue. Nothing was drawn, read or reported. The session
  -- has seen every number that was known then.
  pub record IsAreaFull (g : Geometry) (c : Call Req) (old new : Seat P E G) : Type 0 where
    pub keeps : KeepsAll old new
    pub known : Shared P E G
    pub seen : newest known ≤ new.seen
    pub lacks : LacksArea g c known old new

  -- So a checkpoint was made, and has brought the base to this number.
  pub record MadeRoom (g : Geometry) (c : Call Req) (old new : Seat P E G) : Type 0 where
    pub between : Seat P E G
    pub full : IsAreaFull g c old between
    pub base : ℕ
    pub raises : Raises state faults group base between new

  -- where the group was run that is answered: at once, or once more after a checkpoint
  pub data Begins (g : Geometry) (c : Call Req) (old : Seat P E G) : Seat P E G → Type 0 where
    at_once : Begins g c old old
    again : {new : Seat P E G} → MadeRoom g c old new → Begins g c old new

  -- The group is a commit in the history at the number, and rung; or it is a read there.
  pub record HasActed (g : Geometry) (c : Call Req) (at : ℕ) (drew : Bool) (replies : List Rep)
      (old new : Seat P E G) : Type 0 where
    pub from : Seat P E G
    pub begins : Begins g c old from
    pub acts : Acts calls g c at drew replies from new

  -- The group was run at once or after a checkpoint, and nothing was waited for after it.
  pub record HasNotWaited (g : Geometry) (c : Call Req) (at : ℕ) (drew : Bool)
      (old new : Seat P E G) : Type 0 where
    pub from : Seat P E G
    pub begins : Begins g c old from
    pub waits : WaitsForNone c.session at drew from new
