-- What holds of groups that were done, in one statement each.
use Rattle.std.specs.Prelude.{◌≡◌, ◌<◌, ◌≤◌, ◌+◌, ℕ, List, length, map}
use Rattle.mq_blocks.specs.Descriptor.{AreRising}
use Rattle.mq_blocks.specs.Geometry.{homes_of, queues_of}
use Rattle.mq_blocks.specs.Journal.{number_limit}
use Rattle.mq_blocks.specs.Machine.{Map}
use Rattle.mq_blocks.specs.declared.geometry.Geometry.{Geometry}
use Rattle.mq_exec.specs.declared.outcome.Done.{Done}
use Rattle.mq_calls.specs.Entries.{RanUndrawn, Changes, Does, IsAllLogged, IsUndrawn, tx_of, written_by}
use Rattle.mq_calls.specs.Group.{file_group}
use Rattle.mq_calls.specs.Plans.{DoneOn, HasNumber, IsEntryOf, IsPlanned, map_known}
use Rattle.mq_calls.specs.declared.entry.FileEntry.{FileEntry}
use Rattle.mq_ledger.specs.KnownJournal.{KnownJournal, MayDraw}
use Rattle.mq_revoke.specs.Guard.{placed_of}
use Rattle.mq_revoke.specs.Placed.{Placed}
use Rattle.mq_revoke.specs.Placing.{IsPlacement}
use Rattle.mq_revoke.specs.declared.placement.Planned.{Planned}
use Rattle.mq_desk_laws.specs.Rule.{DeskState, Fits, May, core_of, geometry_of, map_now, numbered}
use Rattle.mq_desk_laws.specs.Values.{Values}
use Rattle.mq_queue_side.specs.Commits.{IsPlanOf, commit_by, commit_of_tx}
pub use Rattle.mq_sessions.specs.Drawn.{PagesStayBelow, blocks_in}
use Rattle.mq_tree.specs.declared.request.Request.{Request}
use Rattle.mq_turns.specs.Meaning.{newest}

-- ---- before there is an entry

-- what a group writes, it writes by rising home block
abbrev pub WritesRise : Type 0
WritesRise =
    (g : Geometry) (session : ℕ) (m : Map) (requests : List Request) (done : Done)
    → DoneOn g session m requests done
    → AreRising 0 (homes_of g) (blocks_in done.writes.items)

-- a placement of just these writes is a plan by which they may be prepared
abbrev pub PlacementsPlan : Type 0
PlacementsPlan =
    (g : Geometry) (session front base : ℕ) (m : Map) (requests : List Request) (done : Done)
    (writes : List Planned) (plan : Placed)
    → DoneOn g session m requests done
    → map (λ w. w.block) writes ≡ blocks_in done.writes.items
    → IsPlacement g session front base writes plan
    → IsPlanOf (homes_of g) (blocks_in done.writes.items) plan

-- ---- what an entry says

-- what is prepared of the writes by the plan is what the transaction of the entry writes
abbrev pub EntriesTellCommits : Type 0
EntriesTellCommits =
    (session : ℕ) (requests : List Request) (done : Done) (plan : Placed) (e : FileEntry)
    → IsEntryOf session requests done e
    → e.placed ≡ plan
    → commit_of_tx (tx_of e) ≡ commit_by plan done.writes.items

-- and each block goes where the plan says
abbrev pub EntriesTellPlans : Type 0
EntriesTellPlans =
    (session homes : ℕ) (requests : List Request) (done : Done) (plan : Placed) (e : FileEntry)
    → IsEntryOf session requests done e
    → e.placed ≡ plan
    → IsPlanOf homes (blocks_in done.writes.items) plan
    → placed_of (tx_of e) ≡ plan

-- ---- what a done group does

abbrev pub DoneGroupsDo : Type 0
DoneGroupsDo =
    (g : Geometry) (m : Map) (requests : List Request) (done : Done) (e : FileEntry)
    → DoneOn g e.session m requests done
    → IsEntryOf e.session requests done e
    → Changes done.writes.items done.frees.items
    → e.session < queues_of g
    → IsPlanOf (homes_of g) (blocks_in (written_by e)) e.placed
    → Does g m e

-- it may be drawn with the next number
abbrev pub DoneGroupsMayBeDrawn : Type 0
DoneGroupsMayBeDrawn =
    (k : KnownJournal) (requests : List Request) (done : Done) (e : FileEntry)
    → DoneOn k.geometry e.session (map_known k) requests done
    → IsEntryOf e.session requests done e
    → HasNumber k e
    → IsPlanned k e
    → MayDraw k (numbered (k.base + length k.history + 1) (tx_of e))

abbrev pub DoneGroupsAsk : Type 0
DoneGroupsAsk =
    (g : Geometry) (m : Map) (requests : List Request) (done : Done) (e : FileEntry)
    → DoneOn g e.session m requests done
    → IsEntryOf e.session requests done e
    → e.session < queues_of g
    → IsUndrawn g done.writes.items done.frees.items
    → IsAllLogged e
    → RanUndrawn g m e

-- ---- on a desk

module _ {Q R : Type 0} (values : Values Q R FileEntry) where
  -- a planned group may be drawn by the rule of the desk
  abbrev pub DoneGroupsMay : Type 0
  DoneGroupsMay =
      (K : DeskState values file_group) (requests : List Request) (done : Done) (e : FileEntry)
      → DoneOn (geometry_of values file_group K) e.session (map_now values file_group K) requests done
      → IsEntryOf e.session requests done e
      → Changes done.writes.items done.frees.items
      → e.session < queues_of (geometry_of values file_group K)
      → newest K + 1 ≤ number_limit
      → IsPlanned (core_of values file_group K) e
      → May values file_group e K

  -- and one that isn't drawn may be read
  abbrev pub DoneGroupsFit : Type 0
  DoneGroupsFit =
      (K : DeskState values file_group) (requests : List Request) (done : Done) (e : FileEntry)
      → DoneOn (geometry_of values file_group K) e.session (map_now values file_group K) requests done
      → IsEntryOf e.session requests done e
      → e.session < queues_of (geometry_of values file_group K)
      → IsUndrawn (geometry_of values file_group K) done.writes.items done.frees.items
      → IsAllLogged e
      → Fits values file_group e K
