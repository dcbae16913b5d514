-- What holds of the parts of a journal that nobody holds, in one statement each.
use Rattle.std.specs.Prelude.{◌≡◌, ◌⊎◌, ◌<◌, ◌≤◌, ℕ, ◌+◌, false, List, [], length, max, Some, slice_index_or}
use Rattle.mq_blocks.specs.Blocks.{block_at}
use Rattle.mq_blocks.specs.Descriptor.{Descriptor}
use Rattle.mq_blocks.specs.Geometry.{homes_of}
use Rattle.mq_blocks.specs.Journal.{stands}
use Rattle.mq_ledger.specs.History.{map_after, IsAt}
use Rattle.mq_ledger.specs.Items.{Entries}
use Rattle.mq_ledger.specs.KnownJournal.{front}
use Rattle.mq_ledger.specs.State.{State, Facts, IsLawful, front_of, is_done, known_of}
use Rattle.mq_ledger.specs.Written.{journal_entries}
use Rattle.mq_ledger.specs.declared.tx.Tx.{Tx}
use Rattle.mq_core.specs.Events.{MayStoreBase, MayWriteHome}
use Rattle.mq_recover.specs.Drives.{DriveState, view_over}
use Rattle.mq_recover.specs.Recovery.{IsReadPrefix}
use Rattle.mq_recover.specs.Images.{IsReadableImage}
use Rattle.mq_recover.specs.Standing.{StandsIn}
use Rattle.mq_recover.specs.Steps.{HasRecovered}
use Rattle.mq_recover.specs.declared.standing.Standing.{Standing}
use Rattle.mq_desk_laws.specs.Bases.{BaseOk}
use Rattle.mq_desk_laws.specs.Pages.{IsToBring}
use Rattle.mq_state_laws.specs.Found.{Finds, IsCutOf}
use Rattle.mq_state_laws.specs.Parts.{Parts, AreParts, AreMarks, IsUndone, known, least_marks, parts_of, state, state_with, unmarked}

-- ---- parts make a state

abbrev pub PartsHaveTheFacts : Type 0
PartsHaveTheFacts =
    (p : Parts) (marks : List ℕ)
    → AreParts p
    → AreMarks p marks
    → Facts p.entries (state_with marks p)

abbrev pub PartsAreLawful : Type 0
PartsAreLawful =
    (p : Parts) (marks : List ℕ)
    → AreParts p
    → AreMarks p marks
    → IsLawful p.entries (state_with marks p)

-- with each queue's least number that isn't done as its mark
abbrev pub LeastMarksAreLawful : Type 0
LeastMarksAreLawful = (p : Parts) → AreParts p → IsLawful p.entries (state p)

-- the flushed heads say at least as much as is known
abbrev pub HeadsReachTheFront : Type 0
HeadsReachTheFront = (p : Parts) → AreParts p → front (known p) ≤ front_of (state p)

-- ---- least marks

-- one for each queue
abbrev pub LeastMarksAreMany : Type 0
LeastMarksAreMany = (p : Parts) → length (least_marks p) ≡ p.geometry.queues

-- all numbers of the queue are done, or it is a number of the queue that isn't
abbrev pub LeastMarksAreUndone : Type 0
LeastMarksAreUndone =
    (p : Parts) (q : ℕ)
    → q < p.geometry.queues
    → (slice_index_or (least_marks p) q 0 ≡ unmarked)
    ⊎ IsUndone (is_done p.starts p.ports) q (slice_index_or (least_marks p) q 0) p.history

-- and none of its numbers below it is undone
abbrev pub LeastMarksAreLeast : Type 0
LeastMarksAreLeast =
    (p : Parts) (t : Tx) (ts : List Tx)
    → t.queue < p.geometry.queues
    → IsAt t ts p.history
    → is_done p.starts p.ports t ts ≡ false
    → slice_index_or (least_marks p) t.queue 0 ≤ t.number

-- ---- a state has parts

abbrev pub FactsHaveParts : Type 0
FactsHaveParts =
    (e : Entries) (s : State)
    → Facts e s
    → AreParts (parts_of e s) × AreMarks (parts_of e s) s.marks

-- which are the state again, except for home writes under way, and know what the state does
abbrev pub PartsAreTheState : Type 0
PartsAreTheState =
    (e : Entries) (s : State)
    → (state_with s.marks (parts_of e s) ≡ record s { writing = [] })
    × (known (parts_of e s) ≡ known_of e s)

-- ---- what the machine allows in such a state

-- a home write of a page that waits for one
abbrev pub WaitingPagesMayGoHome : Type 0
WaitingPagesMayGoHome =
    (p : Parts) (marks : List ℕ) (ended : List (ℕ × ℕ)) (x version logged home : ℕ) (content : List ℕ)
    → AreParts p
    → IsToBring (known p) ended x version logged home
    → x < homes_of p.geometry
    → map_after (known p).start p.history x ≡ Some content
    → MayWriteHome (state_with marks p) x

-- the store of a base, or of the stored one again where that is greater
abbrev pub BasesMayBeStored : Type 0
BasesMayBeStored =
    (p : Parts) (marks : List ℕ) (b : ℕ)
    → AreParts p
    → BaseOk (known p) b
    → MayStoreBase p.entries (state_with marks p) (max b p.root.stored_base)

-- ---- recovery

-- whatever a power cut leaves is readable
abbrev pub CutsAreReadable : Type 0
CutsAreReadable =
    (p : Parts) (d : DriveState)
    → AreParts p
    → p.entries ≡ journal_entries
    → IsCutOf p d
    → IsReadableImage p.geometry d

-- what is read of it
abbrev pub ReadingsFindAPrefix : Type 0
ReadingsFindAPrefix =
    (p : Parts) (d : DriveState) (ds : List Descriptor) (top : ℕ)
    → AreParts p
    → p.entries ≡ journal_entries
    → IsCutOf p d
    → IsReadPrefix p.geometry (view_over p.geometry d) ds top
    → Finds p (d.root.base + length ds) (stands p.geometry (view_over p.geometry d) ds)

-- what `stands` answers
abbrev pub StandingsFindAPrefix : Type 0
StandingsFindAPrefix =
    (p : Parts) (d : DriveState) (s : Standing)
    → AreParts p
    → p.entries ≡ journal_entries
    → IsCutOf p d
    → StandsIn p.geometry d s
    → Finds p (s.base + s.prefix) (block_at s.blocks.items)

-- what `recover` answers, and leaves on the home blocks
abbrev pub RecoveriesFindAPrefix : Type 0
RecoveriesFindAPrefix =
    (p : Parts) (d new : DriveState) (prefix base : ℕ)
    → AreParts p
    → p.entries ≡ journal_entries
    → IsCutOf p d
    → HasRecovered p.geometry d prefix base new
    → Finds p (d.root.base + prefix) (view_over p.geometry new).home

-- and no image shows a number above the last one, so that the base after a recovery isn't above it
abbrev pub TopsWereDrawn : Type 0
TopsWereDrawn =
    (p : Parts) (d : DriveState) (ds : List Descriptor) (top : ℕ)
    → AreParts p
    → p.entries ≡ journal_entries
    → IsCutOf p d
    → IsReadPrefix p.geometry (view_over p.geometry d) ds top
    → top ≤ p.base + length p.history
