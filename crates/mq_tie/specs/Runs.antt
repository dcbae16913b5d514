-- What a run over the ports of a journal leaves: its history, its ports, and the lawful state that they
-- are.
use Rattle.std.specs.Prelude.{◌≡◌, ◌≤◌, ℕ, suc, ◌+◌, ◌-◌, true, List, length, map, reverse, Some, slice_get}
use Rattle.std.specs.List.{Contains}
use Rattle.mq_blocks.specs.Drive.{PortState}
use Rattle.mq_blocks.specs.Journal.{is_among}
use Rattle.mq_drive.specs.Steps.{PortFault}
use Rattle.mq_drive.specs.declared.port.Port.{Ghosts}
use Rattle.mq_state_laws.specs.Parts.{AreMarks, AreParts, Parts, least_marks, marks_from, state_with}
use Rattle.mq_journal.specs.Machine.{journal}
use Rattle.mq_journal.specs.Numbers.{Seat, Shared, Start}
use Rattle.mq_journal.specs.Values.{side_values}
use Rattle.mq_ledger.specs.State.{IsLawful}
use Rattle.mq_pages.specs.declared.page.PageCell.{PageCell}
use Rattle.mq_desk_laws.specs.Groups.{GroupView}
use Rattle.mq_desk_laws.specs.Rule.{geometry_of}
use Rattle.mq_queue_side.specs.declared.root.Root.{Root}
use Rattle.mq_queue_side.specs.declared.side.QueueSide.{QueueSide}
use Rattle.mq_turns.specs.Chairs.{DeskEnded}
use Rattle.mq_turns.specs.Desk.{drawn_of, read_of}
use Rattle.mq_turns.specs.Lists.{Each}
use Rattle.mq_turns.specs.Marks.{mark_of}
use Rattle.mq_turns.specs.Meaning.{HasNumberAt, newest}
use Rattle.mq_tie.specs.Ended.{parts_over}
use Rattle.mq_tie.specs.Legal.{IsCommit, IsRead, map_at, numbered}
use Rattle.mq_tie.specs.Stored.{entries_at, stored_by}
use Rattle.mq_tie.specs.declared.ended.Ended.{Ended}

module _ {P E : Type 0} {G : Ghosts P} where
  -- each entry with its number, in number order
  abbrev pub history_of : Ended P E G → List (ℕ × E)
  history_of r = entries_at (stored_by r.sides.items) r.order.items

  -- the ports of the queues
  abbrev pub ports_of : Ended P E G → List P
  ports_of r = map (λ s. s.pmr.port) r.sides.items

  -- some chair knew that all numbers up to this one are done, and it isn't above the last one
  pub record IsKnownDone (views : List (Seat P E G)) (next n : ℕ) : Type 0 where
    pub low : n ≤ next
    pub view : Seat P E G
    pub one : Contains views view
    pub done : n ≤ view.reading.done

module _ {P E : Type 0} {G : Ghosts P} (state : P → PortState) (faults : P → List PortFault)
    (group : GroupView E) where
  -- a desk has ended with these values
  pub record CanEnd (pages : List PageCell) (sides : List (QueueSide P E G)) (root : Root P G)
      (next base : ℕ) : Type 0 where
    pub opening : Start P E G
    pub views : List (Seat P E G)
    pub end : DeskEnded (journal state faults group) opening views pages sides root next base

  -- what is known and what lies in the ports, with these numbers acknowledged
  abbrev pub parts_of : Shared P E G → Ended P E G → List ℕ → Parts
  parts_of K r told =
      parts_over (side_values state faults) group K (map state (ports_of r)) (state r.root.port) told

  -- The parts are one lawful state of the machine, with the words of the marks or each queue's least number
  -- that isn't done as its mark.
  pub record EndsLawfully (K : Shared P E G) (r : Ended P E G) (told : List ℕ) : Type 0 where
    pub parts : AreParts (parts_of K r told)
    pub marks : AreMarks (parts_of K r told)
        (marks_from (λ q. mark_of q K.claims) 0 (geometry_of (side_values state faults) group K).queues)
    pub lawful : IsLawful (parts_of K r told).entries
        (state_with (least_marks (parts_of K r told)) (parts_of K r told))

  -- What a run leaves, by what was known together at its end and by what each chair drew and read.
  pub record IsRun (K : Shared P E G) (views : List (Seat P E G)) (r : Ended P E G) : Type 0 where
    -- the history has the numbers from the base on, each once, each with its entry
    pub history : history_of r ≡ numbered (suc K.opening.base) (reverse K.log)
    pub last : K.opening.base + length (history_of r) ≡ r.next
    pub stands : (n : ℕ) (e : E) → HasNumberAt K.opening.base K.log n e
        → slice_get (history_of r) (n - suc K.opening.base) ≡ Some (n, e)
    -- each commit is the machine's on the map right before it, and each read on the map at its number
    pub commits : (n : ℕ) (e : E) → HasNumberAt K.opening.base K.log n e
        → IsCommit (side_values state faults) group K n e
    pub reads : Each (λ a. IsRead (side_values state faults) group K (newest a.1) a.0) (read_of views)
    -- what each chair drew stands in it
    pub draws : Each (λ d. slice_get (history_of r) (d.0 - suc K.opening.base) ≡ Some d) (drawn_of views)
    -- the cells have the map at the last number
    pub cells : length r.pages.items ≡ length K.opening.pages
    pub contents : (b : ℕ) (c : PageCell) → slice_get r.pages.items b ≡ Some c
        → c.content ≡ map_at (side_values state faults) group K r.next b
    -- where the desk had a side for each queue, the ports and the history are a lawful state
    pub ends : length K.opening.sides ≡ (geometry_of (side_values state faults) group K).queues
        → (told : List ℕ) → ((n : ℕ) → is_among n told ≡ true → IsKnownDone views r.next n)
        → EndsLawfully K r told
