use Rattle.std.proofs.Common.{◌≡◌, ◌≢◌, ◌<◌, ◌≤◌, ◌-◌, ◌%◌, ℕ, [], length, slice_index_or}
use Rattle.mq_blocks.specs.Limits.{depth}
use Rattle.mq_drive.specs.Choices.{torn_slots}
use Rattle.mq_drive.proofs.cut.tear_slots.Given as goal

-- only slots of the counts that are passed have changed, and those that are left lead to the end
abbrev pub invariant-loop-count : goal.invariant-loop-count
invariant-loop-count l = record {
  len : length l.flushed.items ≡ length l.initial.flushed.items;
  kept : (k : ℕ) → ((c : ℕ) → l.from ≤ c → c < l.to → c % depth ≢ k) → slice_index_or l.flushed.items k [] ≡ slice_index_or l.initial.flushed.items k [];
  left : torn_slots (l.to - l.count) l.count l.staged.items l.flushed.items l.rng ≡ torn_slots (l.fn.to - l.fn.from) l.fn.from l.staged.items l.initial.flushed.items l.initial.rng;
}
