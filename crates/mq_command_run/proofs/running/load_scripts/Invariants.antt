use Rattle.std.proofs.Common.{◌≡◌, drop, map}
use Rattle.mq_command_run.proofs.RunsScripts.{Goes}
use Rattle.mq_command_run.proofs.running.load_scripts.Given as goal

-- nothing is said so far, and the names that are left lead to the same end
abbrev pub invariant-loop-name : goal.invariant-loop-name
invariant-loop-name g l = record {
  silent : g.K.Sink.state l.out ≡ g.K.Sink.state l.fn.out;
  goes : Goes (map (λ s. s.now) l.names) (map (λ s. s.now) (drop l.name-index l.names)) l.scripts.items (g.F.Files.state l.fn.files) (g.F.Files.state l.files);
}
