use Rattle.std.proofs.Common.{◌≡◌, map, take}
use Rattle.mq_calls.proofs.lists.all_logged.Given as goal

abbrev pub invariant-loop-write : goal.invariant-loop-write
invariant-loop-write l = l.logged.items ≡ map (λ w. w.block) (take l.write-index l.writes)
