-- The draw of a number for a group: what it asks of a session, and what it leaves.
use Rattle.std.specs.Prelude.{◌≡◌, ◌<◌, ◌≤◌, ◌^◌, ◌+◌, ◌-◌, ℕ, suc, Bool, true, List, ◌∷◌, Some}
use Rattle.mq_blocks.specs.Descriptor.{journal_form}
use Rattle.mq_blocks.specs.Drive.{PortState, staged_end}
use Rattle.mq_blocks.specs.Limits.{usable_depth}
use Rattle.mq_blocks.specs.Geometry.{area_of}
use Rattle.mq_blocks.specs.Journal.{number_limit}
use Rattle.mq_drive.specs.Steps.{PortFault, Gains, PowerOff}
use Rattle.mq_drive.specs.declared.port.Port.{Ghosts}
use Rattle.mq_pages.specs.declared.page.PageCell.{PageCell}
use Rattle.mq_revoke.specs.Placed.{Placed}
use Rattle.mq_desk_laws.specs.Groups.{GroupView}
use Rattle.mq_desk_laws.specs.Rule.{IsSide, May, touches}
use Rattle.mq_desk_laws.specs.Values.{Part, Values}
use Rattle.mq_queue_side.specs.Commits.{NumberedCommit, commit_of_tx, items_of, size_of}
use Rattle.mq_queue_side.specs.Sent.{AreInZone, IsCutAt, IsReadyFrom}
use Rattle.mq_queue_side.specs.Side.{side_state}
use Rattle.mq_queue_side.specs.Stored.{AreStored, FitIs, IsBounded, rows_of}
use Rattle.mq_queue_side.specs.declared.answers.Fit.TheVariants.{Yes}
use Rattle.mq_queue_side.specs.declared.answers.Why.TheVariants.{Off}
use Rattle.mq_queue_side.specs.declared.root.Root.{Root}
use Rattle.mq_queue_side.specs.declared.side.QueueSide.{QueueSide}
use Rattle.mq_turns.specs.Chairs.{giving}
use Rattle.mq_turns.specs.Desk.{IsTurn, Sees, refreshed, slot_of, turn_at}
use Rattle.mq_turns.specs.Lists.{Each, times}
use Rattle.mq_turns.specs.Marks.{mark_of}
use Rattle.mq_turns.specs.Meaning.{Meaning, charged, drawn, newest}
use Rattle.mq_turns.specs.Words.{after_notice}
use Rattle.mq_turns.specs.declared.rule.Charge.{Charge}
use Rattle.mq_turns.specs.declared.rule.Known.{Known}
use Rattle.mq_turns.specs.declared.rule.Notice.TheVariants as notice
use Rattle.mq_turns.specs.declared.rule.Opening.{Opening}
use Rattle.mq_turns.specs.declared.rule.Reading.{Reading}
use Rattle.mq_turns.specs.declared.rule.Report.{Report}
use Rattle.mq_turns.specs.declared.rule.ChairView.{ChairView}
use Rattle.mq_turns.specs.declared.turn.Turn.{Turn}
use Rattle.mq_turns.specs.declared.turn.Turn.TheVariants.{Side}
use Rattle.mq_journal.specs.Machine.{journal}
use Rattle.mq_journal.specs.Values.{IsRecord, ShowsAll, record_later, side_values}

-- how a desk was opened, what is known on it, and the view of a session
abbrev pub Start : (P E : Type 0) → Ghosts P → Type 0
Start P E G = Opening PageCell (QueueSide P E G) (Root P G)

abbrev pub Shared : (P E : Type 0) → Ghosts P → Type 0
Shared P E G = Known PageCell (QueueSide P E G) (Root P G) E

abbrev pub Seat : (P E : Type 0) → Ghosts P → Type 0
Seat P E G = ChairView PageCell (QueueSide P E G) (Root P G) E

-- a report of the port of a queue's side
abbrev pub reported : ℕ → Report → Charge
reported q r = record { port = Side q; report = r }

module _ {P E : Type 0} {G : Ghosts P} (state : P → PortState) (faults : P → List PortFault)
    (group : GroupView E) where
  abbrev pub values : Values (QueueSide P E G) (Root P G) E
  values = side_values state faults

  abbrev pub machine : Meaning PageCell (QueueSide P E G) (Root P G) E
  machine = journal state faults group

  -- ---- a side between a draw and its send

  -- Its record says what a side's says, but that all is rung: the commit was drawn last on the queue, and
  -- nothing of it is staged.
  pub record SaysDrawn (n : NumberedCommit) (p : Part) (s : QueueSide P E G) : Type 0 where
    pub is : IsRecord p (side_state state faults s)
    pub stored : AreStored p.txs s.stored.items
    pub shows : ShowsAll p.start p.txs (side_state state faults s) p.reports
    pub ready : IsReadyFrom journal_form p.start p.txs (side_state state faults s) n

  abbrev pub drawn_values : NumberedCommit → Values (QueueSide P E G) (Root P G) E
  drawn_values n = record {
    port = values.port;
    faults = values.faults;
    stored = values.stored;
    says = SaysDrawn n;
    root = values.root;
    root_faults = values.root_faults;
    root_says = values.root_says;
    geometry = values.geometry;
    later = λ p word s above says. record {
      is = record_later p word (side_state state faults s) says.is;
      stored = says.stored;
      shows = says.shows;
      ready = says.ready;
    };
  }

  -- what the rule says of it
  abbrev pub HasNumbered : ℕ → Shared P E G → QueueSide P E G → NumberedCommit → Type 0
  HasNumbered q K s n = IsSide (drawn_values n) group q K s

  -- It may be sent.
  pub record MaySend (s : QueueSide P E G) (n : NumberedCommit) : Type 0 where
    pub number : 1 ≤ n.number
    pub room : size_of n ≤ usable_depth - (staged_end (state s.pmr.port) - (state s.pmr.port).head)
    pub end : staged_end (state s.pmr.port) + size_of n ≤ number_limit
    pub direct : AreInZone s.pmr.geometry n.queue n.commit.direct

  -- ---- what a session knows

  -- It holds the side of the queue, which is what the rule says by what it knows of it.
  pub record HoldsSide (o : Start P E G) (q : ℕ) (s : QueueSide P E G) (v : Seat P E G) : Type 0 where
    pub turn : IsTurn o (Side q)
    pub holds : 0 < times (slot_of o (Side q)) v.held
    pub is : Each (λ h. h.0 ≡ slot_of o (Side q) → IsSide values group q h.1 s) v.held

  -- It holds the side of the queue, on which this was drawn.
  pub record HoldsNumbered (o : Start P E G) (q : ℕ) (s : QueueSide P E G) (n : NumberedCommit)
      (v : Seat P E G) : Type 0 where
    pub turn : IsTurn o (Side q)
    pub holds : 0 < times (slot_of o (Side q)) v.held
    pub has : Each (λ h. h.0 ≡ slot_of o (Side q) → HasNumbered q h.1 s n) v.held

  -- something may be known by now
  abbrev pub IsSomeKnown : Seat P E G → Type 0
  IsSomeKnown v = (K : Shared P E G) × Sees machine v K

  -- of all but that side
  abbrev pub SeesRest : Start P E G → ℕ → Seat P E G → Shared P E G → Type 0
  SeesRest o q v K = Sees machine (giving (slot_of o (Side q)) v) K

  -- Whatever is known: the session holds all that the group changes, and it may be drawn.
  pub record MayCome (o : Start P E G) (q : ℕ) (e : E) (v : Seat P E G) : Type 0 where
    pub holds : (K : Shared P E G) → SeesRest o q v K → (t : Turn) → IsTurn K.opening t
        → touches values group K.log e t ≡ true → 0 < times (slot_of K.opening t) v.held
    pub may : (K : Shared P E G) → SeesRest o q v K → newest K < 2 ^ 63 → May values group e K

  -- Ring and area have room for what is placed so, by a base that the session has read, and the counts are
  -- within bounds.
  pub record HasPlace (s : QueueSide P E G) (v : Seat P E G) (plan : Placed) : Type 0 where
    pub base : ℕ
    pub read : base ≤ v.reading.base
    pub fits : FitIs (area_of s.pmr.geometry) base (rows_of s.stored.items) (state s.pmr.port) plan Yes
    pub bounds : IsBounded (rows_of s.stored.items) (state s.pmr.port) plan

  -- ---- what is answered

  -- what was read stays read, and more may be known to be done
  pub record ReadOn (old new : Reading PageCell (QueueSide P E G) (Root P G) E) : Type 0 where
    pub done : old.done ≤ new.done
    pub base : new.base ≡ old.base
    pub pages : new.pages ≡ old.pages
    pub answers : new.answers ≡ old.answers
    pub charged : new.charged ≡ old.charged

  -- neither what the session is nor what it has read changes, and no charge is made
  pub record SameSession (old new : Seat P E G) : Type 0 where
    pub parts : new.parts ≡ old.parts
    pub opening : new.opening ≡ old.opening
    pub session : new.session ≡ old.session
    pub read : new.read ≡ old.read
    pub reading : ReadOn old.reading new.reading

  -- nothing of the queue is under way
  abbrev pub IsResting : QueueSide P E G → Type 0
  IsResting s = staged_end (state s.pmr.port) ≤ (state s.pmr.port).head

  -- Before a draw on the queue: the mark is not above the next number, and where nothing is under way it is
  -- past all that the session had seen; the side is what the rule says, and the rest is as it was known.
  pub record IsMarked (o : Start P E G) (q : ℕ) (s : QueueSide P E G) (old : Seat P E G)
      (K : Shared P E G) : Type 0 where
    pub mark : mark_of q K.claims ≤ suc (newest K)
    pub past : IsResting s → old.seen < mark_of q K.claims
    pub side : IsSide values group q K s
    pub sees : SeesRest o q old K

  pub record Marks (o : Start P E G) (q : ℕ) (s : QueueSide P E G) (old new : Seat P E G) : Type 0 where
    pub knows : (K : Shared P E G) → Sees machine new K → IsMarked o q s old K
    pub about : ℕ → Bool
    pub by : Shared P E G
    pub held : new.held ≡ refreshed about by old.held
    pub alone : (k : ℕ) → about k ≡ true → k ≡ slot_of o (Side q)
    pub drawn : new.drawn ≡ old.drawn
    pub rest : SameSession old new

  -- What was known at the draw; with the entry it is what the session then knows of all that the entry
  -- changes.
  pub record Draws (o : Start P E G) (q : ℕ) (e : E) (old new : Seat P E G) (s : QueueSide P E G)
      (n : NumberedCommit) : Type 0 where
    pub known : Shared P E G
    pub sees : SeesRest o q old known
    pub may : May values group e known
    pub number : n.number ≡ suc (newest known)
    pub seen : new.seen ≡ n.number
    pub past : IsResting s → old.seen < mark_of q known.claims
    pub commit : n.commit ≡ commit_of_tx (group.tx e)
    pub queue : n.queue ≡ q
    pub held : new.held
        ≡ refreshed (λ k. touches values group known.log e (turn_at known.opening k))
        (drawn e known) old.held
    pub drawn : new.drawn ≡ (n.number, e) ∷ old.drawn
    pub side : HoldsNumbered o q s n new
    pub sends : MaySend s n
    pub rest : SameSession old new

  -- ---- a send that was cut

  -- The port refused a call of the send, so that it gained an `Off`, and the side keeps the commit as cut.
  pub record WasCut (s : QueueSide P E G) (n : NumberedCommit) : Type 0 where
    pub after : QueueSide P E G
    pub port : IsCutAt (state s.pmr.port) n.number (items_of s.pmr.geometry n) (state after.pmr.port)
    pub gained : Gains PowerOff (faults s.pmr.port) (faults after.pmr.port)
    pub kept : after.kept ≡ Some (n.number, Off)

  -- ---- what is reported of a port

  -- Whatever is known: with the report, the side is what the rule says.
  abbrev pub ShowsReport : ℕ → Report → QueueSide P E G → Seat P E G → Type 0
  ShowsReport q r s v =
      (K : Shared P E G) → Sees machine v K → IsSide values group q (charged (reported q r) K) s

  -- It was reported of the side's port, and the side was given back.
  pub record IsReported (o : Start P E G) (q : ℕ) (r : Report) (old new : Seat P E G) : Type 0 where
    pub known : Shared P E G
    pub sees : Sees machine old known
    pub is : new
        ≡ giving (slot_of o (Side q)) (after_notice machine (notice.Charge (reported q r)) known old)
