use Rattle.std.proofs.Common.{◌≡◌, ◌++◌}
use Rattle.std.specs.List.{filter_map}
use Rattle.mq_kv_entries.specs.Groups.{held_map}
use Rattle.mq_kv_entries.proofs.Differences.{write_of}
use Rattle.mq_kv_entries.proofs.working.Working.difference.Given as goal

abbrev pub invariant-loop-b : goal.invariant-loop-b
invariant-loop-b l = l.writes.items ++ filter_map (write_of (held_map l.self.held.now.cells)) l.b-iterator ≡ filter_map (write_of (held_map l.self.held.now.cells)) l.fn.self.changed.entries
