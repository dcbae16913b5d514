-- The ports that a closed desk gives back.
use Rattle.std.specs.Prelude.{◌≡◌, ◌<◌, ℕ, List, length, map}
use Rattle.mq_blocks.specs.Drive.{PortState, IsBoundKept}
use Rattle.mq_blocks.specs.declared.geometry.Geometry.{Geometry}
use Rattle.mq_drive.specs.Start.{IsPortOf}
use Rattle.mq_drive.specs.Steps.{PortFault}
use Rattle.mq_drive.specs.declared.port.Port.{Ghosts}
use Rattle.mq_drive.specs.declared.role.Role.{Role}
use Rattle.mq_drive.specs.declared.role.Role.TheVariants.{Queue, Root}
use Rattle.mq_journal.specs.Numbers.{Seat, Start}
use Rattle.mq_journal.specs.Values.{side_values}
use Rattle.mq_ledger.specs.State.{port_at}
use Rattle.mq_desk_laws.specs.Groups.{GroupView}
use Rattle.mq_desk_laws.specs.Rule.{shape_of}
use Rattle.mq_tie.specs.Closed.{HasRun}
use Rattle.mq_tie.specs.Runs.{ports_of}
use Rattle.mq_tie.specs.declared.ended.Ended.{Ended}

-- It is the port of this role, and has the fuse of the other, and the same of its commands and home writes
-- fails.
pub record StaysPort (g : Geometry) (role : Role) (old new : PortState) : Type 0 where
  pub port : IsPortOf g role new
  pub bound : IsBoundKept old new

module _ {P E : Type 0} (G : Ghosts P) (state : P → PortState) (faults : P → List PortFault)
    (group : GroupView E) where
  -- the states of the ports that a desk was opened with
  abbrev pub opened_states : Start P E G → List PortState
  opened_states o = map (λ s. state s.pmr.port) o.sides

  -- The ports are those of the drive still, the queues' in order, each with its fuse and its failing
  -- command.
  pub record KeepsPorts (o : Start P E G) (r : Ended P E G) : Type 0 where
    pub count : length (ports_of r) ≡ length o.sides
    pub queues : (q : ℕ) → q < length o.sides
        → StaysPort (shape_of (side_values state faults) group o) (Queue q)
        (port_at (opened_states o) q) (port_at (map state (ports_of r)) q)
    pub root : StaysPort (shape_of (side_values state faults) group o) Root (state o.root.port)
        (state r.root.port)

  abbrev pub RunsKeepTheirPorts : Type 0
  RunsKeepTheirPorts =
      (o : Start P E G) (views : List (Seat P E G)) (r : Ended P E G)
      → HasRun state faults group o views r → KeepsPorts o r
