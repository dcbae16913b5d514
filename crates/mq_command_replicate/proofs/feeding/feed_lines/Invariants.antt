use Rattle.std.proofs.Common.{◌≡◌, ◌≤◌, ◌*◌, []}
use Rattle.mq_blocks.specs.declared.geometry.Geometry.{Geometry}
use Rattle.mq_drive.specs.Emu.{emu_faults, emu_state}
use Rattle.mq_replica.specs.Contents.{Contents}
use Rattle.mq_replica.specs.Replicas.{replica_state}
use Rattle.mq_replica.specs.Views.{below, faults_below}
use Rattle.mq_command_replicate.specs.Feeds.{HasLines}
use Rattle.mq_command_replicate.specs.Lasting.{IsFollowing}
use Rattle.mq_command_replicate.proofs.feeding.feed_lines.Given as goal

-- the replica has the lines so far, each by at most two offers, and the feeder has nothing left
abbrev pub invariant-loop-line : goal.invariant-loop-line
invariant-loop-line l = record {
  feeder : l.feeder ≡ record { acknowledged = l.line-index; waiting = [] };
  follows : IsFollowing (replica_state (below emu_state) (faults_below emu_faults) l.replica);
  reached : (replica_state (below emu_state) (faults_below emu_faults) l.replica).reached ≡ l.line-index;
  offers : (replica_state (below emu_state) (faults_below emu_faults) l.replica).offers ≤ 2 * l.line-index;
  has : (g : Geometry) (first : Contents) → HasLines g first l.text 0 (replica_state (below emu_state) (faults_below emu_faults) l.fn.replica) → HasLines g first l.text l.line-index (replica_state (below emu_state) (faults_below emu_faults) l.replica);
}
