use Rattle.std.proofs.Common.{◌≡◌, [], take, vec_capacity}
use Rattle.mq_revoke.specs.Placed.{HasRoom}
use Rattle.mq_loose_queues.proofs.drawing.all_logged.Given as goal

-- the first blocks are planned
abbrev pub invariant-loop-block : goal.invariant-loop-block
invariant-loop-block l = record {
  logged : l.plan-inside.logged.items ≡ take l.block-index l.blocks;
  direct : l.plan-inside.direct.items ≡ [];
  revoked : l.plan-inside.revoked.items ≡ [];
  room : HasRoom (vec_capacity l.plan-inside.logged) (vec_capacity l.plan-inside.direct) (vec_capacity l.plan-inside.revoked);
}
