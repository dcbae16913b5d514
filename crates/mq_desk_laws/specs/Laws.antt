-- What holds of the rule of a desk over ports, in one statement each.
use Rattle.std.specs.Prelude.{◌≡◌, ◌⊎◌, ◌<◌, ◌≤◌, ℕ, ◌+◌, ◌-◌, ◌^◌, true, List, length}
use Rattle.mq_ledger.specs.History.{writes, of_queue, IsAt}
use Rattle.mq_ledger.specs.Items.{end_of, descriptor_blocks}
use Rattle.mq_ledger.specs.KnownJournal.{front}
use Rattle.mq_ledger.specs.declared.tx.Tx.{Tx}
use Rattle.mq_desk_laws.specs.Bases.{BaseOk}
use Rattle.mq_desk_laws.specs.Grown.{HasGrown}
use Rattle.mq_desk_laws.specs.Pages.{IsNumbered, IsToBring, WasBrought, known_after}
use Rattle.mq_pages.specs.declared.page.PageCell.{PageCell}
use Rattle.mq_turns.specs.Marks.{is_claimed}
use Rattle.mq_turns.specs.Meaning as history
use Rattle.mq_turns.specs.Meaning.{Grows, newest, claimed, charged, drawn, raised, written}
use Rattle.mq_turns.specs.declared.rule.Charge.{Charge}
use Rattle.mq_turns.specs.declared.rule.Claim.{Claim}
use Rattle.mq_turns.specs.declared.rule.Opening.{Opening}
use Rattle.mq_turns.specs.declared.turn.Turn.TheVariants.{Page, Side, Root}
use Rattle.mq_desk_laws.specs.Cells.{cell_after}
use Rattle.mq_desk_laws.specs.Faults.{AreCharged, IsBacked}
use Rattle.mq_desk_laws.specs.Groups.{GroupView}
use Rattle.mq_desk_laws.specs.Opening.{IsFresh, IsRuled}
use Rattle.mq_desk_laws.specs.Rule.{DeskState, Stay, IsOfPort, IsOk, IsPage, IsSide, IsRoot, May, core_of, faults_of, geometry_of, map_now, next_tx, part_of, touches}
use Rattle.mq_desk_laws.specs.Values.{Values}

module _ {Q R E : Type 0} (values : Values Q R E) (group : GroupView E) where
  -- ---- what is known grows, and nothing of it is about the value

  abbrev pub PagesStay : Type 0
  PagesStay =
      (b : ℕ) (K L : DeskState values group) (c : PageCell)
      → Stay values group (Page b) K L
      → IsPage values group b K c
      → IsPage values group b L c

  abbrev pub SidesStay : Type 0
  SidesStay =
      (q : ℕ) (K L : DeskState values group) (w : Q)
      → Stay values group (Side q) K L
      → IsOk values group K
      → IsOk values group L
      → IsSide values group q K w
      → IsSide values group q L w

  abbrev pub RootsStay : Type 0
  RootsStay =
      (K L : DeskState values group) (r : R)
      → Stay values group Root K L
      → IsOk values group K
      → IsOk values group L
      → IsRoot values group K r
      → IsRoot values group L r

  -- ---- a draw

  abbrev pub DrawsAreRuled : Type 0
  DrawsAreRuled =
      (e : E) (K : DeskState values group)
      → IsOk values group K
      → May values group e K
      → IsOk values group (drawn e K)

  -- an entry changes its own queue's side
  abbrev pub DrawsTouchTheirSides : Type 0
  DrawsTouchTheirSides =
      (log : List E) (e : E)
      → touches values group log e (Side (group.tx e).queue) ≡ true

  -- a page says what the transaction made of it
  abbrev pub PagesShowDraws : Type 0
  PagesShowDraws =
      (b : ℕ) (e : E) (K : DeskState values group) (c : PageCell)
      → IsOk values group K
      → IsPage values group b K c
      → IsPage values group b (drawn e K) (cell_after (next_tx values group e K) b c)

  -- groups run on the map at the newest number
  abbrev pub MapsStayGood : Type 0
  MapsStayGood =
      (K : DeskState values group)
      → IsOk values group K
      → group.good (geometry_of values group K) (map_now values group K)

  -- ---- an opening

  abbrev pub OpeningsAreRuled : Type 0
  OpeningsAreRuled = (o : Opening PageCell Q R) → IsFresh values group o → IsRuled values group o

  -- ---- what the journal knows, by what is known on the desk

  abbrev pub JournalsGrow : Type 0
  JournalsGrow =
      (K L : DeskState values group)
      → Grows K L
      → HasGrown (core_of values group K) (core_of values group L)

  -- a home write that is noted is known to the journal
  abbrev pub NotesAreTold : Type 0
  NotesAreTold =
      (b n : ℕ) (K : DeskState values group)
      → core_of values group (written (b, n) K) ≡ known_after (core_of values group K) K.ended b n

  -- a cell's numbers are those of a page
  abbrev pub CellsAreNumbered : Type 0
  CellsAreNumbered =
      (b : ℕ) (K : DeskState values group) (c : PageCell)
      → IsPage values group b K c
      → IsNumbered (core_of values group K) b c.version c.last_logged c.home_version

  -- they say that it waits for a home write
  abbrev pub CellsWait : Type 0
  CellsWait =
      (b : ℕ) (K : DeskState values group) (c : PageCell)
      → IsPage values group b K c
      → c.last_logged ≡ c.version
      → c.home_version < c.version
      → c.version ≤ front (core_of values group K)
      → IsToBring (core_of values group K) K.ended b c.version c.last_logged c.home_version

  -- A page that was noted when nothing of it waited for a home write below the base, once the base was
  -- done, needed no home write then.
  abbrev pub NotedPagesWereBrought : Type 0
  NotedPagesWereBrought =
      (base b : ℕ) (K L : DeskState values group) (c : PageCell)
      → IsOk values group K
      → Grows K L
      → base ≤ front (core_of values group K)
      → IsPage values group b K c
      → c.version ≤ front (core_of values group K)
      → (c.last_logged ≡ c.version → c.version ≤ base → c.version ≤ c.home_version)
      → WasBrought (core_of values group L) base b

  -- ---- what a store of a mark asks

  -- of a claim only that its numbers were drawn
  abbrev pub ClaimsAreRuled : Type 0
  ClaimsAreRuled =
      (c : Claim) (K : DeskState values group)
      → IsOk values group K
      → c.up_to ≤ newest K
      → IsOk values group (claimed c K)

  -- the side shows that they are done
  abbrev pub SidesShowClaims : Type 0
  SidesShowClaims =
      (c : Claim) (K : DeskState values group) (w : Q)
      → IsOk values group K
      → IsSide values group c.queue K w
      → ((t : Tx) (ts : List Tx)
      → IsAt t ts (core_of values group K).history
      → t.queue ≡ c.queue
      → t.number ≤ c.up_to
      → end_of ((core_of values group K).from c.queue) (of_queue c.queue ts)
      + (writes t + descriptor_blocks t)
      ≤ (values.port w).head)
      → IsSide values group c.queue (claimed c K) w

  -- ---- what a note of a home write asks

  abbrev pub HomeWritesAreRuled : Type 0
  HomeWritesAreRuled =
      (b version logged home : ℕ) (K : DeskState values group)
      → IsOk values group K
      → IsToBring (core_of values group K) K.ended b version logged home
      → IsOk values group (written (b, version) K)

  -- its page says so
  abbrev pub PagesShowHomeWrites : Type 0
  PagesShowHomeWrites =
      (b : ℕ) (K : DeskState values group) (c : PageCell)
      → IsPage values group b K c
      → IsToBring (core_of values group K) K.ended b c.version c.last_logged c.home_version
      → IsPage values group b (written (b, c.version) K) (record c { home_version = c.version })

  -- ---- what a store of the base asks

  abbrev pub RaisesAreRuled : Type 0
  RaisesAreRuled =
      (b : ℕ) (K : DeskState values group)
      → IsOk values group K
      → BaseOk (core_of values group K) b
      → K.word ≤ b
      → IsOk values group (raised b K)

  -- the root has flushed it
  abbrev pub RootsShowRaises : Type 0
  RootsShowRaises =
      (b : ℕ) (K : DeskState values group) (r : R)
      → IsOk values group K
      → IsRoot values group K r
      → K.word ≤ b
      → b ≤ (values.root r).base
      → IsRoot values group (raised b K) r

  -- ---- what a charge asks

  abbrev pub ChargesAreRuled : Type 0
  ChargesAreRuled =
      (c : Charge) (K : DeskState values group)
      → IsOk values group K
      → IsOfPort (length K.opening.sides) c
      → IsOk values group (charged c K)

  -- a side stays what it is whose record says so, and whose port has gained a fault of its kind
  abbrev pub SidesShowCharges : Type 0
  SidesShowCharges =
      (c : Charge) (q : ℕ) (K : DeskState values group) (w u : Q)
      → c.port ≡ Side q
      → IsSide values group q K u
      → values.says (part_of values group q (charged c K)) u
      → AreCharged (geometry_of values group K) (Side q) K.charges (faults_of values group K.opening q)
      (values.faults w)
      → (2 ^ 64 - 1 ≤ length (values.faults u))
      ⊎ IsBacked (geometry_of values group K) c.report (faults_of values group K.opening q)
      (values.faults w) (values.faults u)
      → IsSide values group q (charged c K) u

  -- and the root
  abbrev pub RootsShowCharges : Type 0
  RootsShowCharges =
      (c : Charge) (K : DeskState values group) (r s : R)
      → c.port ≡ Root
      → IsRoot values group K s
      → AreCharged (geometry_of values group K) Root K.charges (values.root_faults K.opening.root)
      (values.root_faults r)
      → (2 ^ 64 - 1 ≤ length (values.root_faults s))
      ⊎ IsBacked (geometry_of values group K) c.report (values.root_faults K.opening.root)
      (values.root_faults r) (values.root_faults s)
      → IsRoot values group (charged c K) s

  -- ---- done numbers

  -- A number up to which every entry is claimed to be done is not above the front.
  abbrev pub ClaimsReachTheFront : Type 0
  ClaimsReachTheFront =
      (n : ℕ) (K : DeskState values group)
      → IsOk values group K
      → n ≤ newest K
      → ((m : ℕ) (e : E)
      → history.HasNumberAt K.opening.base K.log m e
      → m ≤ n
      → is_claimed (group.tx e).queue m K.claims ≡ true)
      → n ≤ front (core_of values group K)
