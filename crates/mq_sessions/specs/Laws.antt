-- What holds of the pages that a session holds, in one statement each.
use Rattle.std.specs.Prelude.{◌≡◌, ◌≢◌, ◌+◌, ℕ, Bool, false, List, [], Option, Some}
use Rattle.std.specs.List.{All, AllZip}
use Rattle.mq_blocks.specs.Drive.{PortState}
use Rattle.mq_drive.specs.Steps.{PortFault}
use Rattle.mq_drive.specs.declared.port.Port.{Ghosts}
use Rattle.mq_sessions.specs.Pages.{held_pages, HoldsPages, IsAfterStep, blocks_of, giving_pages}
use Rattle.mq_journal.specs.Machine.{journal}
use Rattle.mq_journal.specs.Numbers.{Draws, Seat, Start}
use Rattle.mq_pages.specs.Held.{Cells, cell_of}
use Rattle.mq_pages.specs.declared.page.PageCell.{PageCell}
use Rattle.mq_desk_laws.specs.Groups.{GroupView}
use Rattle.mq_desk_laws.specs.Rule.{DeskState, IsPage, map_now, numbered}
use Rattle.mq_desk_laws.specs.Values.{Values}
use Rattle.mq_queue_side.specs.Commits.{NumberedCommit}
use Rattle.mq_queue_side.specs.declared.side.QueueSide.{QueueSide}
use Rattle.mq_turns.specs.Chairs.{giving, holding}
use Rattle.mq_turns.specs.Desk.{Sees, refreshed}
use Rattle.mq_turns.specs.Lists.{tick, times}
use Rattle.mq_turns.specs.Meaning.{Meaning}
use Rattle.mq_turns.specs.declared.rule.Known.{Known}
use Rattle.mq_turns.specs.declared.rule.Opening.{Opening}
use Rattle.mq_turns.specs.declared.rule.ChairView.{ChairView}
use Rattle.mq_sessions.specs.Leaving.{cells_after}

module _ {Q R E : Type 0} (μ : Meaning PageCell Q R E) where
  -- whatever is known by now, each cell is what the machine says of its page
  abbrev pub CellsAreCurrent : Type 0
  CellsAreCurrent =
      (o : Opening PageCell Q R) (cells : Cells) (v : ChairView PageCell Q R E)
      (K : Known PageCell Q R E) (b : ℕ) (c : PageCell)
      → v.opening ≡ Some o
      → HoldsPages μ o cells v
      → Sees μ v K
      → cell_of cells b ≡ Some c
      → μ.page b K c

  -- the pages stay held while the session takes a turn with another slot
  abbrev pub PagesStayAtTake : Type 0
  PagesStayAtTake =
      (o : Opening PageCell Q R) (cells : Cells) (v : ChairView PageCell Q R E) (k : ℕ)
      (K : Known PageCell Q R E)
      → All (λ b. b ≢ k) (blocks_of cells)
      → HoldsPages μ o cells v
      → HoldsPages μ o cells (holding k K v)

  -- and when it gives one back
  abbrev pub PagesStayAtGiveBack : Type 0
  PagesStayAtGiveBack =
      (o : Opening PageCell Q R) (cells : Cells) (v : ChairView PageCell Q R E) (k : ℕ)
      → All (λ b. b ≢ k) (blocks_of cells)
      → HoldsPages μ o cells v
      → HoldsPages μ o cells (giving k v)

  -- and at a step of its own that is about other turns, which it then knows of anew
  abbrev pub PagesStayAtStep : Type 0
  PagesStayAtStep =
      (o : Opening PageCell Q R) (cells : Cells) (v w : ChairView PageCell Q R E) (about : ℕ → Bool)
      (L : Known PageCell Q R E)
      → All (λ b. about b ≡ false) (blocks_of cells)
      → w.held ≡ refreshed about L v.held
      → HoldsPages μ o cells v
      → HoldsPages μ o cells w

  -- a step that is about some of them, as a draw is, gives them the cells that the machine then has for
  -- them
  abbrev pub PagesFollowStep : Type 0
  PagesFollowStep =
      (o : Opening PageCell Q R) (cells new : Cells) (v w : ChairView PageCell Q R E) (about : ℕ → Bool)
      (L : Known PageCell Q R E)
      → AllZip (IsAfterStep μ about L) cells new
      → w.held ≡ refreshed about L v.held
      → HoldsPages μ o cells v
      → HoldsPages μ o new w

  -- A session that holds just these pages and one other turn holds nothing once it has given all of them
  -- back.
  abbrev pub NoPageIsLeft : Type 0
  NoPageIsLeft =
      (cells : Cells) (v : ChairView PageCell Q R E) (slot : ℕ)
      → ((k : ℕ) → times k v.held ≡ times k cells + tick slot k)
      → (giving slot (giving_pages (blocks_of cells) v)).held ≡ []

module _ {Q R E : Type 0} (values : Values Q R E) (group : GroupView E) where
  -- what such cells hold is what the map at the newest number says
  abbrev pub PagesAreOfTheMap : Type 0
  PagesAreOfTheMap =
      (cells : Cells) (K : DeskState values group)
      → ((b : ℕ) (c : PageCell) → cell_of cells b ≡ Some c → IsPage values group b K c)
      → (b : ℕ) (page : Option (List ℕ))
      → held_pages cells b ≡ Some page
      → map_now values group K b ≡ page

module _ {P E : Type 0} {G : Ghosts P} (state : P → PortState) (faults : P → List PortFault)
    (group : GroupView E) (s : QueueSide P E G) where
  -- Pages that a session holds when it draws a number stay held, each with the cell that the transaction of
  -- the entry makes of its own.
  abbrev pub DrawnPagesAreHeld : Type 0
  DrawnPagesAreHeld =
      (o : Start P E G) (q : ℕ) (e : E) (old new : Seat P E G) (n : NumberedCommit) (cells : Cells)
      → old.opening ≡ Some o
      → Draws state faults group o q e old new s n
      → HoldsPages (journal state faults group) o cells old
      → HoldsPages (journal state faults group) o (cells_after (numbered n.number (group.tx e)) cells) new
