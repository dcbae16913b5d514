use Rattle.std.proofs.Common.{◌≡◌, ◌<◌, ◌≤◌, ℕ, ◌+◌, ◌++◌, true, length, reverse, vec_capacity}
use Rattle.mq_blocks.specs.Geometry.{homes_of}
use Rattle.mq_blocks.specs.Journal.{is_among}
use Rattle.mq_blocks.specs.Copies.{directs_of}
use Rattle.mq_ledger.specs.History.{blocks_of}
use Rattle.mq_queue_side.specs.Parts.{writes_of}
use Rattle.mq_queue_side.proofs.commit.add_directs.Given as goal

-- what is left goes on to the same items
abbrev pub invariant-placing : goal.invariant-placing
invariant-placing l = record {
  goes_on : l.items.items ++ directs_of l.geometry (writes_of (reverse l.pages.items)) ≡ l.fn.items.items ++ directs_of l.geometry (writes_of l.fn.pages.items);
  room : length l.items.items + length l.pages.items ≤ vec_capacity l.items;
  capacity : vec_capacity l.fn.items ≤ vec_capacity l.items;
  home : (x : ℕ) → is_among x (blocks_of (writes_of (reverse l.pages.items))) ≡ true → x < homes_of l.geometry;
}

abbrev pub decreases-placing : goal.decreases-placing
decreases-placing l = length l.pages.items
