-- How often the ports of a run rang, and how many events happened on them, by the commits of its report.
use Rattle.std.specs.Prelude.{◌≡◌, ◌<◌, ◌&&◌, ℕ, Bool, List, map, nat_eq, reverse}
use Rattle.std.specs.List.{filter}
use Rattle.mq_blocks.specs.Drive.{PortState}
use Rattle.mq_blocks.specs.declared.geometry.Geometry.{Geometry}
use Rattle.mq_drive.specs.Steps.{PortFault}
use Rattle.mq_drive.specs.declared.port.Port.{Ghosts}
use Rattle.mq_drive.specs.declared.port.Ports.{Ports}
use Rattle.mq_calls.specs.Group.{file_group}
use Rattle.mq_calls.specs.declared.entry.FileEntry.{FileEntry}
use Rattle.mq_ledger.specs.State.{port_at}
use Rattle.mq_ledger.specs.declared.tx.Tx.{Tx}
use Rattle.mq_recover.specs.Drives.{drive_of, faults_on}
use Rattle.mq_recover.specs.declared.standing.Standing.{Standing}
use Rattle.mq_report.specs.declared.line.Line.{Line}
use Rattle.mq_run.specs.Runs.{HasRunScripts}
use Rattle.mq_run.specs.declared.end.RunEnd.{RunEnd}
use Rattle.mq_script.specs.Scripts.{Script}
use Rattle.mq_tie.specs.Backed.{faults_at}
use Rattle.mq_tie.specs.Rings.{RangOnceEach, txs_in}
use Rattle.mq_tie.specs.Runs.{history_of}

-- it is the line of a commit of this session
abbrev pub is_commit_of : ℕ → Line → Bool
is_commit_of q l = l.commit && nat_eq l.session q

-- The transactions, newest first, are those of the commits of a session: each line of one has the number of
-- one, in the order of the report, and there are no more.
abbrev pub AreCommitsOf : ℕ → List Line → List Tx → Type 0
AreCommitsOf q lines txs =
    map (λ l. l.number) (filter (is_commit_of q) lines) ≡ map (λ t. t.number) (reverse txs)

module _ {P : Type 0} (state : P → PortState) (faults : P → List PortFault) where
  -- In a run over these ports with this history, the port of a queue rang once for each commit of the
  -- report that its session sent. Home writes aside, at most 2n + 4 events happened on it for each commit
  -- of n entries, and one for each of its faults, unless these are as many as a count of 64 bits can say.
  pub record HasRungOnceEach (q : ℕ) (ports : Ports P) (history : List (ℕ × FileEntry))
      (e : RunEnd P) : Type 0 where
    pub commits : AreCommitsOf q e.entries.items (txs_in file_group q history)
    pub rang : RangOnceEach (txs_in file_group q history) (faults_at (faults_on faults e.ports) q)
        (port_at (drive_of state ports).queues q) (port_at (drive_of state e.ports).queues q)

module _ {P : Type 0} (G : Ghosts P) (state : P → PortState) (faults : P → List PortFault) where
  -- each port of a queue that a run gives back has rung so
  abbrev pub RunsRingOnce : Type 0
  RunsRingOnce =
      (g : Geometry) (ports : Ports P) (s : Standing) (scripts : List Script) (finish : Bool)
      (e : RunEnd P) (q : ℕ)
      → (run : HasRunScripts G state faults g ports s scripts finish e)
      → q < g.queues
      → HasRungOnceEach state faults q ports (history_of run.ends.end) e
