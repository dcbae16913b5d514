-- The ports that a closed desk gives back.
use Rattle.std.proofs.Common.{◌≡◌, ◌<◌, ℕ, List, [], length, map, Some, None, sym, ap, subst, ◌∙◌, arith}
use Rattle.std.specs.Prelude.{slice_get, slice_index_or}
use Rattle.std.proofs.lemmas.List.{length-map}
use Rattle.mq_blocks.specs.Drive.{PortState, IsBoundKept, IsFlushed}
use Rattle.mq_blocks.specs.Ports.{IsPort}
use Rattle.mq_blocks.specs.declared.geometry.Geometry.{Geometry}
use Rattle.mq_drive.specs.Roles.{queue_in}
use Rattle.mq_drive.specs.Start.{IsPortOf}
use Rattle.mq_drive.specs.Steps.{PortFault}
use Rattle.mq_drive.specs.declared.port.Port.{Ghosts}
use Rattle.mq_drive.specs.declared.role.Role.{Role}
use Rattle.mq_drive.specs.declared.role.Role.TheVariants.{Queue, Root}
use Rattle.mq_drive.proofs.StartRolePorts.{is-port_of}
use Rattle.mq_journal.specs.Numbers.{Seat, Start}
use Rattle.mq_journal.specs.Values.{side_values}
use Rattle.mq_ledger.specs.State.{port_at}
use Rattle.mq_desk_laws.specs.Groups.{GroupView}
use Rattle.mq_desk_laws.specs.Rule.{IsRoot, IsSide, geometry_of, port_of, shape_of}
use Rattle.mq_desk_laws.proofs.Opening.{at_map}
use Rattle.mq_queue_side.specs.declared.side.QueueSide.{QueueSide}
use Rattle.mq_tie.specs.Closed.{HasRun}
use Rattle.mq_tie.specs.Ports.{KeepsPorts, StaysPort, opened_states}
use Rattle.mq_tie.specs.Runs.{ports_of}
use Rattle.mq_tie.specs.declared.ended.Ended.{Ended}
use Rattle.mq_tie.proofs.Runs.{same-ports}
use Rattle.mq_tie.proofs.EndedParts.{there as found}

-- a port where nothing but what was staged since the last flush differs from what was flushed
role-port : (g : Geometry) (role : Role) (p : PortState) → IsPort g (queue_in role) p → ((n : ℕ) → n < length p.flushed → IsFlushed p n → slice_index_or p.staged n [] ≡ slice_index_or p.flushed n []) → IsPortOf g role p
role-port g role p is settled = is-port_of is (λ k lt there. sym (settled k lt there))

-- the root has no ring
root-port : (g : Geometry) (p : PortState) → IsPort g None p → IsPortOf g Root p
root-port g p is = role-port g Root p is (λ k lt there. let none = is.flushed in absurd (omega arith))

module _ {P E : Type 0} {G : Ghosts P} (state : P → PortState) (faults : P → List PortFault) (group : GroupView E) (o : Start P E G) (views : List (Seat P E G)) (r : Ended P E G) (run : HasRun state faults group o views r) where
  abbrev shape : Geometry
  shape = shape_of (side_values state faults) group o

  shape-is : geometry_of (side_values state faults) group run.end.known ≡ shape
  shape-is = ap (shape_of (side_values state faults) group) run.end.opening

  stays : (q : ℕ) (w : QueueSide P E G) → slice_get run.sides q ≡ Some w → StaysPort shape (Queue q) (port_at (opened_states G state faults group o) q) (state w.pmr.port)
  stays q w at =
      let is : IsSide (side_values state faults) group q run.end.known w = run.end.sides_stand q w at in
      record {
        port = subst (λ (z : Geometry). IsPortOf z (Queue q) (state w.pmr.port)) shape-is (role-port _ (Queue q) (state w.pmr.port) is.port.port (λ n lt there. is.port.ring.settled n there));
        bound = subst (λ (z : Start P E G). IsBoundKept (port_of (side_values state faults) group z q) (state w.pmr.port)) run.end.opening is.says.is.bound;
      }

  states-are : map state (ports_of r) ≡ map (λ s. state s.pmr.port) run.sides
  states-are = ap (map state) run.ports ∙ sym (same-ports state run.sides)

  many : length run.sides ≡ length o.sides
  many = run.end.all_sides

  pub keeps-ports : KeepsPorts G state faults group o r
  keeps-ports = record {
    count = ap length run.ports ∙ (length-map run.sides (λ (s : QueueSide P E G). s.pmr.port) ∙ many);
    queues = λ q lt.
        let at = found run.sides q (let m = many in omega arith) in
        let same : port_at (map state (ports_of r)) q ≡ state at.0.pmr.port = ap (λ ps. port_at ps q) states-are ∙ (at_map (λ (s : QueueSide P E G). state s.pmr.port) run.sides q at.0 _ at.1).0 in
        subst (StaysPort shape (Queue q) (port_at (opened_states G state faults group o) q)) (sym same) (stays q at.0 at.1);
    root =
        let is : IsRoot (side_values state faults) group run.end.known r.root = run.end.root_stands in
        record {
          port = subst (λ (z : Geometry). IsPortOf z Root (state r.root.port)) shape-is (root-port _ (state r.root.port) is.port.port.port);
          bound = subst (λ (z : Start P E G). IsBoundKept (state z.root.port) (state r.root.port)) run.end.opening is.bound;
        };
  }
