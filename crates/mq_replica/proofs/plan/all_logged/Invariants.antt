use Rattle.std.proofs.Common.{◌≡◌, [], map, take, vec_capacity}
use Rattle.mq_revoke.specs.Placed.{HasRoom}
use Rattle.mq_replica.proofs.plan.all_logged.Given as goal

-- the blocks of the first writes are planned
abbrev pub invariant-loop-write : goal.invariant-loop-write
invariant-loop-write l = record {
  logged : l.plan-inside.logged.items ≡ map (λ w. w.block) (take l.write-index l.writes);
  direct : l.plan-inside.direct.items ≡ [];
  revoked : l.plan-inside.revoked.items ≡ [];
  room : HasRoom (vec_capacity l.plan-inside.logged) (vec_capacity l.plan-inside.direct) (vec_capacity l.plan-inside.revoked);
}
