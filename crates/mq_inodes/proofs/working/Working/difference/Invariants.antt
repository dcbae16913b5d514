use Rattle.std.proofs.Common.{◌≡◌, ◌++◌}
use Rattle.std.specs.List.{filter_map}
use Rattle.mq_blocks.specs.Geometry.{meta_of}
use Rattle.mq_inodes.specs.Pages.{held_pages}
use Rattle.mq_inodes.proofs.Differences.{freed_of, write_of}
use Rattle.mq_inodes.proofs.working.Working.difference.Given as goal

abbrev pub invariant-loop-b : goal.invariant-loop-b
invariant-loop-b l = record {
  writes : l.writes.items ++ filter_map (write_of (meta_of l.self.geometry) (held_pages l.self.held.now.cells)) l.b-iterator ≡ filter_map (write_of (meta_of l.self.geometry) (held_pages l.self.held.now.cells)) l.fn.self.changed.entries;
  frees : l.frees.items ++ filter_map (freed_of (held_pages l.self.held.now.cells)) l.b-iterator ≡ filter_map (freed_of (held_pages l.self.held.now.cells)) l.fn.self.changed.entries;
}
