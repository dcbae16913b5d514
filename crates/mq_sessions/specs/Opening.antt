-- A desk at its opening over the ports of a drive that was recovered, and its sessions.
use Rattle.std.specs.Prelude.{◌≡◌, ℕ, List, [], map, Option}
use Rattle.std.specs.List.{range_with_len}
use Rattle.mq_blocks.specs.Drive.{PortState}
use Rattle.mq_blocks.specs.Geometry.{homes_of}
use Rattle.mq_blocks.specs.Machine.{Map}
use Rattle.mq_blocks.specs.declared.geometry.Geometry.{Geometry}
use Rattle.mq_desk_laws.specs.Groups.{GroupView}
use Rattle.mq_desk_laws.specs.Opening.{IsFresh}
use Rattle.mq_desk_laws.specs.Rule.{shape_of}
use Rattle.mq_drive.specs.Steps.{PortFault}
use Rattle.mq_drive.specs.declared.port.Port.{Ghosts}
use Rattle.mq_drive.specs.declared.port.Ports.{Ports}
use Rattle.mq_journal.specs.Numbers.{Seat, Start}
use Rattle.mq_journal.specs.Values.{side_values}
use Rattle.mq_pages.specs.Held.{HeldCells}
use Rattle.mq_pages.specs.declared.page.PageCell.{PageCell}
use Rattle.mq_queue_side.specs.declared.root.Root.{Root}
use Rattle.mq_queue_side.specs.declared.side.QueueSide.{QueueSide}
use Rattle.mq_recover.specs.declared.standing.Standing.{Standing}
use Rattle.mq_sessions.specs.Calls.{IsReady}
use Rattle.mq_turns.specs.Desk.{fresh}
use Rattle.mq_turns.specs.declared.rule.Opening.{Opening}

-- ---- the cells

-- what a map has at the home blocks, as a list
abbrev pub listed : Geometry → Map → List (Option (List ℕ))
listed g m = map m (range_with_len 0 (homes_of g))

-- the cell of a block that nothing has changed since the base
abbrev pub first_cell : ℕ → Option (List ℕ) → PageCell
first_cell base content =
    record { content = content; version = base; last_logged = base; home_version = base }

-- the cells of all home blocks
abbrev pub first_cells : Geometry → Map → ℕ → List PageCell
first_cells g m base = map (λ b. first_cell base (m b)) (range_with_len 0 (homes_of g))

-- ---- the desk

module _ {P E : Type 0} {G : Ghosts P} (state : P → PortState) (faults : P → List PortFault)
    (group : GroupView E) where
  -- the shape of the drive, by the values that a desk was opened with
  abbrev pub geometry_at : Opening PageCell (QueueSide P E G) (Root P G) → Geometry
  geometry_at o = shape_of (side_values state faults) group o

  -- What a desk was opened with over these ports: the map in its cells, and the ports, each where it was.
  pub record IsOpenedOver (g : Geometry) (m : Map) (ports : Ports P) (s : Standing)
      (o : Start P E G) : Type 0 where
    pub base : o.base ≡ s.base
    pub pages : map (λ c. c.content) o.pages ≡ listed g m
    pub queues : map (λ q. q.pmr.port) o.sides ≡ ports.queues.items
    pub root : o.root.port ≡ ports.root
    pub shape : geometry_at o ≡ g
    pub fresh : IsFresh (side_values state faults) group o

-- ---- the sessions

module _ {P E : Type 0} {G : Ghosts P} (group : GroupView E) where
  -- a session that has made no call
  pub record IsNewSession (g : Geometry) (o : Start P E G) (i queue calls : ℕ) (wanted : List ℕ)
      (cells : HeldCells) (v : Seat P E G) : Type 0 where
    pub view_is : v ≡ fresh o i
    pub queue_is : queue ≡ i
    pub calls_are : calls ≡ 0
    pub wanted_are : wanted ≡ []
    pub ready : IsReady group g i 0 cells v
