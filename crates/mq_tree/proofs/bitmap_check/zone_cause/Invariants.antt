use Rattle.std.proofs.Common.{ℕ, false}
use Rattle.std.specs.Prelude.{slice_index_or}
use Rattle.mq_tree.specs.Laid.{zone_block}
use Rattle.mq_tree.proofs.Marks.{HasCause}
use Rattle.mq_tree.proofs.bitmap_check.zone_cause.Given as goal

abbrev pub invariant-loop-k : goal.invariant-loop-k
invariant-loop-k l = HasCause l.block (λ (k : ℕ). slice_index_or l.used (zone_block l.fn.geometry l.zone k) false) l.k l.cause
