use Rattle.std.proofs.Common.{take, vec_capacity}
use Rattle.mq_revoke.specs.Placed.{HasRoom}
use Rattle.mq_revoke.proofs.Placing.{IsSoFar}
use Rattle.mq_revoke.proofs.placement.plan.Given as goal

abbrev pub invariant-loop-write : goal.invariant-loop-write
invariant-loop-write l = record {
  lists : IsSoFar l.geometry l.queue l.front l.base (take l.write-index l.writes) l.into-inside.logged.items l.into-inside.direct.items l.into-inside.revoked.items;
  reserved : HasRoom (vec_capacity l.into-inside.logged) (vec_capacity l.into-inside.direct) (vec_capacity l.into-inside.revoked);
}
