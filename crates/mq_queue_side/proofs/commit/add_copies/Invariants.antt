use Rattle.std.proofs.Common.{◌≡◌, ◌≤◌, ◌+◌, ◌++◌, length, reverse, vec_capacity}
use Rattle.mq_blocks.specs.Copies.{copies_at}
use Rattle.mq_queue_side.specs.Parts.{writes_of}
use Rattle.mq_queue_side.proofs.commit.add_copies.Given as goal

-- what is left goes on to the same items
abbrev pub invariant-copying : goal.invariant-copying
invariant-copying l = record {
  goes_on : l.items.items ++ copies_at l.geometry l.queue l.place (writes_of (reverse l.pages.items)) ≡ l.fn.items.items ++ copies_at l.geometry l.queue l.first (writes_of l.fn.pages.items);
  room : length l.items.items + length l.pages.items ≤ vec_capacity l.items;
  capacity : vec_capacity l.fn.items ≤ vec_capacity l.items;
  places : l.place + length l.pages.items ≡ l.first + length l.fn.pages.items;
}

abbrev pub decreases-copying : goal.decreases-copying
decreases-copying l = length l.pages.items
