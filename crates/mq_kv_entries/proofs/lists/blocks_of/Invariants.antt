use Rattle.std.proofs.Common.{◌≡◌, map, take}
use Rattle.mq_kv_entries.proofs.lists.blocks_of.Given as goal

abbrev pub invariant-loop-write : goal.invariant-loop-write
invariant-loop-write l = l.blocks.items ≡ map (λ w. w.block) (take l.write-index l.writes)
