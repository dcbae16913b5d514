-- What lies on a desk over the ports of a drive, by what is known: cells of home blocks, sides of queues,
-- and the root; and which groups may be drawn.
use Rattle.std.specs.Prelude.{◌≡◌, ℕ, ◌+◌, ◌<◌, ◌≤◌, nat_eq, Bool, true, false, List, [], ◌∷◌, length, map, slice_index_or, Option, Some, None, if◌then◌else◌}
use Rattle.mq_blocks.specs.Drive.{PortState, IsBoundKept}
use Rattle.mq_blocks.specs.Geometry.{zone_of}
use Rattle.mq_blocks.specs.Machine.{Map}
use Rattle.mq_blocks.specs.declared.geometry.Geometry.{Geometry}
use Rattle.mq_drive.specs.Steps.{PortFault}
use Rattle.mq_ledger.specs.History.{changes, map_after, last, last_logged, of_queue}
use Rattle.mq_ledger.specs.KnownJournal.{KnownJournal, LogOk, MayDraw}
use Rattle.mq_ledger.specs.Sides.{SideOk}
use Rattle.mq_ledger.specs.State.{no_port}
use Rattle.mq_ledger.specs.Written.{journal_entries}
use Rattle.mq_ledger.specs.declared.tx.Tx.{Tx}
use Rattle.mq_desk_laws.specs.Bases.{BaseOk, RootStands}
use Rattle.mq_desk_laws.specs.Pages.{due_by, home_number}
use Rattle.mq_pages.specs.declared.page.PageCell.{PageCell}
use Rattle.mq_turns.specs.Lists.{Each}
use Rattle.mq_turns.specs.Marks.{is_claimed}
use Rattle.mq_turns.specs.Meaning.{Lie, Stays, Touch, newest}
use Rattle.mq_turns.specs.declared.rule.Charge.{Charge}
use Rattle.mq_turns.specs.declared.rule.Known.{Known}
use Rattle.mq_turns.specs.declared.rule.Opening.{Opening}
use Rattle.mq_turns.specs.declared.rule.Report.{Report}
use Rattle.mq_turns.specs.declared.rule.Report.TheVariants as report
use Rattle.mq_turns.specs.declared.turn.Turn.{Turn}
use Rattle.mq_turns.specs.declared.turn.Turn.TheVariants.{Page, Side, Root}
use Rattle.mq_desk_laws.specs.Faults.{AreCharged, reports_of}
use Rattle.mq_desk_laws.specs.Groups.{GroupView}
use Rattle.mq_desk_laws.specs.Values.{Part, Values}

abbrev pub same_port : Option ℕ → Option ℕ → Bool
same_port (Some q) (Some r) = nat_eq q r
same_port None None = true
same_port _ _ = false

-- the turn is that of a port, where there are `sides` sides
abbrev pub IsPortTurn : ℕ → Turn → Type 0
IsPortTurn sides (Page b) = ⊥
IsPortTurn sides (Side q) = q < sides
IsPortTurn sides Root = Unit {0}

-- A call on the root's port, which sends no transaction, was refused, for a fault of the port: the power
-- went off, or a home write failed.
abbrev pub IsOfRoot : Report → Type 0
IsOfRoot report.Off = Unit {0}
IsOfRoot (report.Failed tx status) = ⊥
IsOfRoot (report.FailedHome block status) = Unit {0}
IsOfRoot (report.Stopped tx status) = ⊥
IsOfRoot (report.Sent tx) = ⊥

-- The report is of the port of a side that there is, or of the root's. That a transaction was rung, has
-- failed, or stays undone, is reported of sides alone.
abbrev pub IsOfPort : ℕ → Charge → Type 0
IsOfPort sides c = IsPortTurn sides c.port × (c.port ≡ Root → IsOfRoot c.report)

abbrev pub numbered : ℕ → Tx → Tx
numbered n t = record t { number = n }

module _ {Q R E : Type 0} (values : Values Q R E) (group : GroupView E) where
  abbrev pub DeskState : Type 0
  DeskState = Known PageCell Q R E

  -- ---- the opening

  abbrev pub start_of : Opening PageCell Q R → Map
  start_of o x = slice_index_or (map (λ c. c.content) o.pages) x None

  abbrev pub doorbell_of : Opening PageCell Q R → ℕ → ℕ
  doorbell_of o q = slice_index_or (map (λ w. (values.port w).doorbell) o.sides) q 0

  abbrev pub port_of : Opening PageCell Q R → ℕ → PortState
  port_of o q = slice_index_or (map values.port o.sides) q no_port

  abbrev pub faults_of : Opening PageCell Q R → ℕ → List PortFault
  faults_of o q = slice_index_or (map values.faults o.sides) q []

  abbrev pub shape_of : Opening PageCell Q R → Geometry
  shape_of o = values.geometry o.sides o.root

  abbrev pub geometry_of : DeskState → Geometry
  geometry_of K = shape_of K.opening

  -- ---- the history

  abbrev pub history : ℕ → List E → List Tx
  history base [] = []
  history base (e ∷ es) = numbered (base + length es + 1) (group.tx e) ∷ history base es

  abbrev pub history_of : DeskState → List Tx
  history_of K = history K.opening.base K.log

  -- the map at the newest number
  abbrev pub map_now : DeskState → Map
  map_now K = map_after (start_of K.opening) (history_of K)

  -- what is known on the desk, as the journal says it
  abbrev pub core_of : DeskState → KnownJournal
  core_of K = record {
    geometry = geometry_of K;
    entries = journal_entries;
    start = start_of K.opening;
    base = K.opening.base;
    from = doorbell_of K.opening;
    history = history_of K;
    done = λ t ts. is_claimed t.queue t.number K.claims;
    due = due_by K.opening.base K.ended;
    word = K.word;
  }

  abbrev pub own_of : ℕ → DeskState → List Tx
  own_of q K = of_queue q (history_of K)

  -- the entries of a queue, each with its number
  abbrev pub entries_of : ℕ → ℕ → List E → List (ℕ × E)
  entries_of q base [] = []
  entries_of q base (e ∷ es) =
      if nat_eq (group.tx e).queue q then (base + length es + 1, e) ∷ entries_of q base es
      else entries_of q base es

  -- groups ran one after another, each on the map that those before it left, the first on the map at the
  -- opening, and the blocks of each were placed by the rule
  abbrev pub IsLegalHistory : Geometry → Map → ℕ → List E → Type 0
  IsLegalHistory g start base [] = group.good g start
  IsLegalHistory g start base (e ∷ es) =
      group.does g (map_after start (history base es)) e
      × group.placed g start base (history base es) e
      × IsLegalHistory g start base es

  -- The history is legal, each claim is of a drawn number, the base word is a base, and each report is of a
  -- port.
  pub record IsOk (K : DeskState) : Type 0 where
    pub log : LogOk (core_of K)
    pub claims : Each (λ c. c.up_to ≤ newest K) K.claims
    pub base : BaseOk (core_of K) K.word
    pub legal : IsLegalHistory (geometry_of K) (start_of K.opening) K.opening.base K.log
    pub ports : Each (IsOfPort (length K.opening.sides)) K.charges

  -- ---- what changes what

  -- a transaction changes the pages that it writes or frees, and its queue's side
  abbrev pub touches : Touch E
  touches log e (Page b) = changes (group.tx e) b
  touches log e (Side q) = nat_eq (group.tx e).queue q
  touches log e Root = false

  -- a home write is about its page and the port that has the block
  abbrev pub lies : Lie PageCell Q R
  lies o h (Page b) = nat_eq h.0 b
  lies o h (Side q) = same_port (zone_of (shape_of o) h.0) (Some q)
  lies o h Root = same_port (zone_of (shape_of o) h.0) None

  -- what is known grew, and nothing of it is about the turn
  abbrev pub Stay : Turn → DeskState → DeskState → Type 0
  Stay = Stays touches lies

  -- ---- values

  pub record IsPage (b : ℕ) (K : DeskState) (c : PageCell) : Type 0 where
    pub content : c.content ≡ map_now K b
    pub version : c.version ≡ last K.opening.base (history_of K) b
    pub last_logged : c.last_logged ≡ last_logged K.opening.base (history_of K) b
    pub home_version : c.home_version ≡ home_number (core_of K) K.ended b

  -- what the side's record refers to
  abbrev pub part_of : ℕ → DeskState → Part
  part_of q K = record {
    geometry = geometry_of K;
    queue = q;
    start = doorbell_of K.opening q;
    opened = port_of K.opening q;
    first = faults_of K.opening q;
    word = K.word;
    txs = own_of q K;
    reports = reports_of (Side q) K.charges;
  }

  -- The port's entries are those of all transactions of its queue, the groups are stored, and the port has
  -- gained the faults of what was reported of it.
  pub record IsSide (q : ℕ) (K : DeskState) (w : Q) : Type 0 where
    pub port : SideOk (core_of K) q (own_of q K) (values.port w)
    pub stored : values.stored w ≡ entries_of q K.opening.base K.log
    pub says : values.says (part_of q K) w
    pub charged : AreCharged (geometry_of K) (Side q) K.charges (faults_of K.opening q) (values.faults w)

  -- The flushed and the stored base are bases, not below the base word. The port has the fuse that it had
  -- at the opening, and the same of its home writes fails.
  pub record IsRoot (K : DeskState) (r : R) : Type 0 where
    pub says : values.root_says (geometry_of K) r
    pub port : RootStands (core_of K) (values.root r)
    pub bound : IsBoundKept (values.root K.opening.root) (values.root r)
    pub charged : AreCharged (geometry_of K) Root K.charges (values.root_faults K.opening.root)
        (values.root_faults r)

  -- ---- draws

  -- the next transaction
  abbrev pub next_tx : E → DeskState → Tx
  next_tx e K = numbered (newest K + 1) (group.tx e)

  -- The journal allows the transaction, the group ran on the map at the newest number, and its blocks are
  -- placed by the rule.
  pub record May (e : E) (K : DeskState) : Type 0 where
    pub draw : MayDraw (core_of K) (next_tx e K)
    pub does : group.does (geometry_of K) (map_now K) e
    pub placed : group.placed (geometry_of K) (start_of K.opening) K.opening.base (history_of K) e

  abbrev pub Fits : E → DeskState → Type 0
  Fits e K = group.asks (geometry_of K) (map_now K) e
