use Rattle.std.proofs.Common.{◌≡◌, ◌≤◌, ◌++◌, drop, length, reverse}
use Rattle.mq_queue_side.specs.Parts.{pages_in, pages_out, AreLeft}
use Rattle.mq_queue_side.proofs.prepare.part.Given as goal

-- what is left goes on to the same two lists
abbrev pub invariant-parting : goal.invariant-parting
invariant-parting l = record {
  within : l.at ≤ length l.blocks;
  left : AreLeft (drop l.at l.blocks) (reverse l.pages.items);
  listed : l.listed.items ++ pages_in (drop l.at l.blocks) (reverse l.pages.items) ≡ pages_in l.blocks l.fn.pages.items;
  others : l.others.items ++ pages_out (drop l.at l.blocks) (reverse l.pages.items) ≡ pages_out l.blocks l.fn.pages.items;
}

abbrev pub decreases-parting : goal.decreases-parting
decreases-parting l = length l.pages.items
