use Rattle.std.proofs.Common.{◌≡◌, ℕ, length, true, false, All, Some, None, slice_index_or}
use Rattle.std.specs.Option.{ForSome, option_to_list}
use Rattle.mq_drive.specs.Choices.{torn_blocks, writes_of, by_count}
use Rattle.mq_drive.specs.Slots.{index_in}
use Rattle.mq_drive.proofs.SlotsTearing.{IsOwn, IsOther}
use Rattle.mq_drive.proofs.cut.tear_commands.Given as goal

-- the commands that are left are among the first ones, a certain block that none of these writes is
-- as it was, and those that are left lead to the end
abbrev pub invariant-loop-command : goal.invariant-loop-command
invariant-loop-command l = record {
  area : l.area ≡ l.fn.area;
  homes : l.homes ≡ l.fn.homes;
  len : length l.blocks.stored.items ≡ length l.fn.blocks.stored.items;
  certain : l.blocks.certain.items ≡ l.fn.blocks.certain.items;
  own : All (IsOwn l.area.first l.area.size l.homes.first (length l.blocks.stored.items)) l.posted.items;
  rest : (k : ℕ) → All (IsOther l.area.first l.area.size l.homes.first k) l.fn.posted.items → All (IsOther l.area.first l.area.size l.homes.first k) l.posted.items;
  kept : (k : ℕ) → All (IsOther l.area.first l.area.size l.homes.first k) l.fn.posted.items → slice_index_or l.fn.blocks.certain.items k false ≡ true
      → slice_index_or l.blocks.stored.items k None ≡ slice_index_or l.fn.blocks.stored.items k None;
  one : ForSome l.failed (λ c. l.fn.failed ≡ Some c);
  left : torn_blocks (index_in l.fn.area.first l.fn.area.size l.fn.homes.first) (writes_of (by_count (option_to_list l.failed) l.posted.items)) l.blocks.stored.items l.rng
      ≡ torn_blocks (index_in l.fn.area.first l.fn.area.size l.fn.homes.first) (writes_of (by_count (option_to_list l.fn.failed) l.fn.posted.items)) l.fn.blocks.stored.items l.fn.rng;
}

abbrev pub decreases-loop-command : goal.decreases-loop-command
decreases-loop-command l = length l.posted.items
