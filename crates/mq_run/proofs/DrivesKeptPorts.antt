-- The ports that a run gives back.
use Rattle.std.proofs.Common.{◌≡◌, ℕ, ◌<◌, Bool, List, length, map, sym, ap, subst, ◌∙◌, arith}
use Rattle.std.proofs.lemmas.List.{length-map}
use Rattle.mq_blocks.specs.Drive.{PortState, IsBoundKept}
use Rattle.mq_blocks.specs.declared.geometry.Geometry.{Geometry}
use Rattle.mq_drive.specs.Start.{IsPortOf}
use Rattle.mq_drive.specs.Steps.{PortFault}
use Rattle.mq_drive.specs.declared.port.Port.{Ghosts}
use Rattle.mq_drive.specs.declared.port.Ports.{Ports}
use Rattle.mq_drive.specs.declared.role.Role.TheVariants.{Queue, Root}
use Rattle.mq_calls.specs.Group.{file_group}
use Rattle.mq_calls.specs.declared.entry.FileEntry.{FileEntry}
use Rattle.mq_journal.specs.Numbers.{Start}
use Rattle.mq_ledger.specs.State.{port_at}
use Rattle.mq_recover.specs.Drives.{AreBoundsKept, ArePorts, drive_of}
use Rattle.mq_recover.specs.declared.standing.Standing.{Standing}
use Rattle.mq_script.specs.Scripts.{Script}
use Rattle.mq_queue_side.specs.declared.side.QueueSide.{QueueSide}
use Rattle.mq_tie.specs.Ports.{KeepsPorts, StaysPort, opened_states}
use Rattle.mq_tie.specs.Runs.{ports_of}
use Rattle.mq_tie.specs.declared.ended.Ended.{Ended}
use Rattle.mq_tie.proofs.Ports as closed
use Rattle.mq_tie.proofs.Runs.{same-ports}
use Rattle.mq_run.specs.Runs.{HasRunScripts}
use Rattle.mq_run.specs.declared.end.RunEnd.{RunEnd}

module _ {P : Type 0} (G : Ghosts P) (state : P → PortState) (faults : P → List PortFault) (g : Geometry) (ports : Ports P) (s : Standing) (scripts : List Script) (finish : Bool) (e : RunEnd P) (run : HasRunScripts G state faults g ports s scripts finish e) where
  abbrev o : Start P FileEntry G
  o = run.opening

  abbrev end : Ended P FileEntry G
  end = run.ends.end

  keeps : KeepsPorts G state faults file_group o end
  keeps = closed.keeps-ports state faults file_group o run.ends.left end run.ends.run

  given : map state e.ports.queues.items ≡ map state (ports_of end)
  given = ap (map state) run.ends.leaves.queues

  taken : opened_states G state faults file_group o ≡ map state ports.queues.items
  taken = same-ports state o.sides ∙ ap (map state) run.opened.queues

  many : length o.sides ≡ g.queues
  many = sym (length-map o.sides (λ (q : QueueSide P FileEntry G). state q.pmr.port)) ∙ (run.opened.fresh.start.ports ∙ ap (λ (x : Geometry). x.queues) run.opened.shape)

  stays : (q : ℕ) → q < g.queues → StaysPort g (Queue q) (port_at (map state ports.queues.items) q) (port_at (map state e.ports.queues.items) q)
  stays q lt =
      let kept = keeps.queues q (let m = many in omega arith) in
      record {
        port = subst (λ (z : Geometry × List PortState). IsPortOf z.0 (Queue q) (port_at z.1 q)) (λ i. (run.opened.shape i, sym given i)) kept.port;
        bound = subst (λ (z : List PortState × List PortState). IsBoundKept (port_at z.0 q) (port_at z.1 q)) (λ i. (taken i, sym given i)) kept.bound;
      }

  root : StaysPort g Root (state ports.root) (state e.ports.root)
  root = record {
    port = subst (λ (z : Geometry × P). IsPortOf z.0 Root (state z.1)) (λ i. (run.opened.shape i, sym run.ends.leaves.root i)) keeps.root.port;
    bound = subst (λ (z : P × P). IsBoundKept (state z.0) (state z.1)) (λ i. (run.opened.root i, sym run.ends.leaves.root i)) keeps.root.bound;
  }

  pub keeps-ports : ArePorts g (drive_of state e.ports) × AreBoundsKept g (drive_of state ports) (drive_of state e.ports)
  keeps-ports = (
    record {
      count = length-map e.ports.queues.items state ∙ (ap length run.ends.leaves.queues ∙ (keeps.count ∙ many));
      each = λ q lt. (stays q lt).port;
      root = root.port;
    },
    record { queues = λ q lt. (stays q lt).bound; root = root.bound },
  )
