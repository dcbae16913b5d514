-- What holds of bases, and of what makes them, in one statement each.
use Rattle.std.specs.Prelude.{◌≡◌, ◌≢◌, ◌<◌, ◌≤◌, ℕ, ◌+◌, max, true, List, ◌∷◌, length, Some, None}
use Rattle.mq_blocks.specs.Drive.{PortState, after_flush, after_store_base}
use Rattle.mq_blocks.specs.Geometry.{homes_of, zone_of}
use Rattle.mq_blocks.specs.Journal.{is_among}
use Rattle.mq_ledger.specs.History.{blocks_of, map_after, last, last_logged, IsAt}
use Rattle.mq_ledger.specs.KnownJournal.{KnownJournal, LogOk, front}
use Rattle.mq_ledger.specs.Sides.{Certainly, RootOk, SideOk, home_index}
use Rattle.mq_ledger.specs.declared.tx.Tx.{Tx}
use Rattle.mq_core.specs.Events.{begin_home, end_home}
use Rattle.mq_desk_laws.specs.Bases.{AreAtHome, BaseOk, RootStands}
use Rattle.mq_desk_laws.specs.Claims.{AreDoneTo, IsDoneTo}
use Rattle.mq_desk_laws.specs.Grown.{HasGrown}
use Rattle.mq_desk_laws.specs.Pages.{AreBrought, IsBrought, IsNumbered, IsToBring, due_by, home_number, known_after}

-- ---- what is known grows

abbrev pub GrowthGoesOn : Type 0
GrowthGoesOn = (k l m : KnownJournal) → HasGrown k l → HasGrown l m → HasGrown k m

-- a base stays one
abbrev pub BasesStay : Type 0
BasesStay = (k l : KnownJournal) (b : ℕ) → LogOk k → LogOk l → HasGrown k l → BaseOk k b → BaseOk l b

-- the front never falls
abbrev pub FrontsStay : Type 0
FrontsStay = (k l : KnownJournal) → HasGrown k l → front k ≤ front l

-- ---- where a base comes from

-- a number whose whole map is kept at home
abbrev pub KeptMapsAreBases : Type 0
KeptMapsAreBases =
    (k : KnownJournal) (b : ℕ)
    → LogOk k
    → k.base ≤ b
    → b ≤ front k
    → ((x : ℕ) → k.due x b ≡ true)
    → BaseOk k b

-- as that at the opening is
abbrev pub FirstBasesAreBases : Type 0
FirstBasesAreBases =
    (k : KnownJournal) (ended : List (ℕ × ℕ))
    → LogOk k
    → k.due ≡ due_by k.base ended
    → BaseOk k k.base

-- the greater one of two bases
abbrev pub GreaterBasesAreBases : Type 0
GreaterBasesAreBases = (k : KnownJournal) (b c : ℕ) → BaseOk k b → BaseOk k c → BaseOk k (max b c)

-- ---- a checkpoint, page by page

-- of no page anything is asked
abbrev pub PagesBegin : Type 0
PagesBegin = (k : KnownJournal) (b : ℕ) → AreAtHome k b 0

-- a page whose last change is done, and of which the base needs no home write, is the next
abbrev pub PagesGoOn : Type 0
PagesGoOn =
    (k : KnownJournal) (b x version logged home : ℕ)
    → LogOk k
    → IsNumbered k x version logged home
    → version ≤ front k
    → IsBrought k b x version logged home
    → AreAtHome k b x
    → AreAtHome k b (x + 1)

-- the first n pages stay at home, whatever others do meanwhile
abbrev pub PagesStay : Type 0
PagesStay =
    (k l : KnownJournal) (b n : ℕ)
    → LogOk k
    → LogOk l
    → HasGrown k l
    → b ≤ front k
    → AreAtHome k b n
    → AreAtHome l b n

-- and once it is all of them, the number is a base
abbrev pub PagesEnd : Type 0
PagesEnd =
    (k : KnownJournal) (b : ℕ)
    → k.base ≤ b
    → b ≤ front k
    → AreAtHome k b (homes_of k.geometry)
    → BaseOk k b

-- each page needed no home write at some moment after the number was done
abbrev pub NotesMakeABase : Type 0
NotesMakeABase =
    (k : KnownJournal) (b : ℕ)
    → LogOk k
    → k.base ≤ b
    → b ≤ front k
    → AreBrought k b
    → BaseOk k b

-- ---- a checkpoint that holds all pages at once

abbrev pub StoppedPagesMakeABase : Type 0
StoppedPagesMakeABase =
    (k : KnownJournal) (version logged home : ℕ → ℕ)
    → LogOk k
    → k.base + length k.history ≤ front k
    → ((x : ℕ) → x < homes_of k.geometry → IsNumbered k x (version x) (logged x) (home x))
    → ((x : ℕ) → x < homes_of k.geometry → IsBrought k (front k) x (version x) (logged x) (home x))
    → BaseOk k (front k)

-- ---- done numbers

-- a number up to which each queue is done is not above the front
abbrev pub DoneQueuesReachTheFront : Type 0
DoneQueuesReachTheFront =
    (k : KnownJournal) (n : ℕ)
    → LogOk k
    → n ≤ k.base + length k.history
    → AreDoneTo k n k.geometry.queues
    → n ≤ front k

-- a queue that was done up to a drawn number stays so
abbrev pub DoneQueuesStay : Type 0
DoneQueuesStay =
    (k l : KnownJournal) (q n : ℕ)
    → LogOk l
    → HasGrown k l
    → n ≤ k.base + length k.history
    → IsDoneTo k q n
    → IsDoneTo l q n

-- ---- the numbers of a page

-- its last change, its last logging, and the last number whose content came home
abbrev pub CellsAreNumbered : Type 0
CellsAreNumbered =
    (k : KnownJournal) (ended : List (ℕ × ℕ)) (x version logged home : ℕ)
    → k.due ≡ due_by k.base ended
    → version ≡ last k.base k.history x
    → logged ≡ last_logged k.base k.history x
    → home ≡ home_number k ended x
    → IsNumbered k x version logged home

-- ---- home writes

-- a page that waits for its home write is above each base
abbrev pub WaitingPagesAreAboveBases : Type 0
WaitingPagesAreAboveBases =
    (k : KnownJournal) (ended : List (ℕ × ℕ)) (b x version logged home : ℕ) (content : List ℕ)
    → LogOk k
    → BaseOk k b
    → IsToBring k ended x version logged home
    → x < homes_of k.geometry
    → map_after k.start k.history x ≡ Some content
    → b < version

-- Its last change logged it, is done, and is above each number whose content is known to be kept at home.
abbrev pub WaitingPagesWereLogged : Type 0
WaitingPagesWereLogged =
    (k : KnownJournal) (ended : List (ℕ × ℕ)) (x version logged home : ℕ)
    → LogOk k
    → IsToBring k ended x version logged home
    → ((v : ℕ) → k.due x v ≡ true → v < last k.base k.history x)
    × (last k.base k.history x ≤ front k)
    × ((t : Tx) (ts : List Tx)
    → IsAt t ts k.history
    → t.number ≡ last k.base k.history x
    → is_among x (blocks_of t.logged) ≡ true)

-- A home write of the page, of any bytes, begins: what holds of its port still holds, though more is not
-- known. So it does if the home write fails or is cut off.
abbrev pub HomeWritesBegin : Type 0
HomeWritesBegin =
    (k : KnownJournal) (ended : List (ℕ × ℕ)) (x version logged home : ℕ) (block : List ℕ)
    (q : ℕ) (txs : List Tx) (p : PortState)
    → LogOk k
    → IsToBring k ended x version logged home
    → zone_of k.geometry x ≡ Some q
    → SideOk k q txs p
    → SideOk k q txs (begin_home k.geometry x block p)

abbrev pub RootHomeWritesBegin : Type 0
RootHomeWritesBegin =
    (k : KnownJournal) (ended : List (ℕ × ℕ)) (x version logged home : ℕ) (block : List ℕ) (p : PortState)
    → LogOk k
    → IsToBring k ended x version logged home
    → zone_of k.geometry x ≡ None
    → x < homes_of k.geometry
    → RootOk k p
    → RootOk k (begin_home k.geometry x block p)

-- it ends, and this is not yet known: the block is at home with its bytes
abbrev pub HomeWritesEnd : Type 0
HomeWritesEnd =
    (k : KnownJournal) (ended : List (ℕ × ℕ)) (x version logged home : ℕ) (block : List ℕ)
    (q : ℕ) (txs : List Tx) (p : PortState)
    → LogOk k
    → IsToBring k ended x version logged home
    → zone_of k.geometry x ≡ Some q
    → SideOk k q txs p
    → SideOk k q txs (end_home k.geometry x block p)
    × Certainly (end_home k.geometry x block p) (home_index k.geometry x) block

abbrev pub RootHomeWritesEnd : Type 0
RootHomeWritesEnd =
    (k : KnownJournal) (ended : List (ℕ × ℕ)) (x version logged home : ℕ) (block : List ℕ) (p : PortState)
    → LogOk k
    → IsToBring k ended x version logged home
    → zone_of k.geometry x ≡ None
    → x < homes_of k.geometry
    → RootOk k p
    → RootOk k (end_home k.geometry x block p)
    × Certainly (end_home k.geometry x block p) (home_index k.geometry x) block

-- It becomes known, where its bytes were the page's content: the history, its port, and each other port.
abbrev pub ToldLogsHold : Type 0
ToldLogsHold =
    (k : KnownJournal) (ended : List (ℕ × ℕ)) (x version logged home : ℕ)
    → LogOk k
    → IsToBring k ended x version logged home
    → LogOk (known_after k ended x version) × HasGrown k (known_after k ended x version)

abbrev pub ToldSidesHold : Type 0
ToldSidesHold =
    (k : KnownJournal) (ended : List (ℕ × ℕ)) (x version logged home : ℕ) (block : List ℕ)
    (q : ℕ) (txs : List Tx) (p : PortState)
    → LogOk k
    → IsToBring k ended x version logged home
    → map_after k.start k.history x ≡ Some block
    → zone_of k.geometry x ≡ Some q
    → SideOk k q txs p
    → SideOk (known_after k ended x version) q txs (end_home k.geometry x block p)

abbrev pub ToldRootsHold : Type 0
ToldRootsHold =
    (k : KnownJournal) (ended : List (ℕ × ℕ)) (x version logged home : ℕ) (block : List ℕ) (p : PortState)
    → LogOk k
    → IsToBring k ended x version logged home
    → map_after k.start k.history x ≡ Some block
    → zone_of k.geometry x ≡ None
    → x < homes_of k.geometry
    → RootOk k p
    → RootOk (known_after k ended x version) (end_home k.geometry x block p)

abbrev pub OtherSidesHold : Type 0
OtherSidesHold =
    (k : KnownJournal) (ended : List (ℕ × ℕ)) (x version logged home q : ℕ) (txs : List Tx) (p : PortState)
    → LogOk k
    → IsToBring k ended x version logged home
    → zone_of k.geometry x ≢ Some q
    → SideOk k q txs p
    → SideOk (known_after k ended x version) q txs p

abbrev pub OtherRootsHold : Type 0
OtherRootsHold =
    (k : KnownJournal) (ended : List (ℕ × ℕ)) (x version logged home : ℕ) (p : PortState)
    → LogOk k
    → IsToBring k ended x version logged home
    → zone_of k.geometry x ≢ None
    → RootOk k p
    → RootOk (known_after k ended x version) p

-- and the page, whose third number is its version now
abbrev pub ToldPagesAreNumbered : Type 0
ToldPagesAreNumbered =
    (k : KnownJournal) (ended : List (ℕ × ℕ)) (x version logged home : ℕ)
    → IsToBring k ended x version logged home
    → (home_number (known_after k ended x version) ((x, version) ∷ ended) x ≡ version)
    × IsNumbered (known_after k ended x version) x version logged version

-- ---- the root

-- a base is stored, if the stored one isn't greater
abbrev pub BasesAreStored : Type 0
BasesAreStored =
    (k : KnownJournal) (b : ℕ) (p : PortState)
    → RootStands k p
    → BaseOk k b
    → RootStands k (after_store_base p (max b p.stored_base))

-- and flushed
abbrev pub BasesAreFlushed : Type 0
BasesAreFlushed = (k : KnownJournal) (p : PortState) → RootStands k p → RootStands k (after_flush p)

-- the base word is raised to it: the history, the word, each queue's port, and the root's
abbrev pub RaisedLogsHold : Type 0
RaisedLogsHold =
    (k : KnownJournal) (b : ℕ)
    → LogOk k
    → BaseOk k b
    → k.word ≤ b
    → LogOk (record k { word = b }) × HasGrown k (record k { word = b }) × BaseOk (record k { word = b }) b

abbrev pub RaisedSidesHold : Type 0
RaisedSidesHold =
    (k : KnownJournal) (b q : ℕ) (txs : List Tx) (p : PortState)
    → LogOk k
    → k.word ≤ b
    → b ≤ front k
    → SideOk k q txs p
    → SideOk (record k { word = b }) q txs p

abbrev pub RaisedRootsHold : Type 0
RaisedRootsHold =
    (k : KnownJournal) (b : ℕ) (p : PortState)
    → LogOk k
    → RootStands k p
    → k.word ≤ b
    → b ≤ p.base
    → RootStands (record k { word = b }) p
