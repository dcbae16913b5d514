use Rattle.std.proofs.Common.{◌≡◌, ◌++◌, ◌≤◌, drop, take}
use Rattle.mq_inodes.specs.Pages.{pages_of}
use Rattle.mq_inodes.specs.Files.{bytes_at}
use Rattle.mq_inodes.proofs.working.Working.gather.Given as goal

abbrev pub invariant-loop-b : goal.invariant-loop-b
invariant-loop-b l = record {
  rest : l.bytes.items ++ take l.left (drop l.skip (bytes_at (pages_of l.self) (drop l.b-index l.blocks))) ≡ take l.fn.count (drop l.fn.skip (bytes_at (pages_of l.self) l.blocks));
  skips : l.skip ≤ 4096;
  few : l.left ≤ l.fn.count;
}
