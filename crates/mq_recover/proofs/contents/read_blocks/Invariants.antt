use Rattle.std.proofs.Common.{◌≡◌, ◌<◌, ℕ, None, length, get_or}
use Rattle.mq_blocks.specs.Blocks.{block_at}
use Rattle.mq_recover.specs.Drives.{states}
use Rattle.mq_recover.specs.Recovering.{newest_of}
use Rattle.mq_recover.proofs.contents.read_blocks.Given as goal

-- the blocks so far are the first ones
abbrev pub invariant-loop-b : goal.invariant-loop-b
invariant-loop-b g l = record {
  whole : length l.blocks.items ≡ l.b;
  are : (x : ℕ) → x < l.b → block_at l.blocks.items x ≡ newest_of l.fn.geometry (states g.P.Port.state l.ports.queues.items l.ports.root) (get_or l.fn.copies x None) x;
}
