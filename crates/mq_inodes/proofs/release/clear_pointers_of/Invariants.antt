use Rattle.std.proofs.Common.{ℕ, ◌<◌}
use Rattle.std.specs.Prelude.{slice_index}
use Rattle.mq_inodes.proofs.Released.{AreClear}
use Rattle.mq_inodes.proofs.release.clear_pointers_of.Given as goal

abbrev pub invariant-loop-k : goal.invariant-loop-k
invariant-loop-k l = AreClear l.fn.block l.block l.fn.from l.k × ((j : ℕ) → slice_index l.block j < 256)
