use Rattle.std.proofs.Common.{◌≡◌, ℕ, ◌<◌, ◌≤◌, length, take, get_or}
use Rattle.mq_blocks.specs.Descriptor.{AreRising, AreApart}
use Rattle.mq_area.proofs.DescriptorRising.{next_above}
use Rattle.mq_area.proofs.lists.first_unfit.Given as goal

abbrev pub invariant-loop-i : goal.invariant-loop-i
invariant-loop-i l =
    (l.low ≡ next_above 0 (take l.i l.revoked)) × AreRising 0 l.homes (take l.i l.revoked) × AreApart (take l.i l.revoked) l.logged
    × (l.passed ≤ length l.logged) × ((k : ℕ) → k < l.passed → get_or l.logged k 0 < l.low)
