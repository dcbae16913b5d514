use Rattle.std.proofs.Common.{◌≡◌, All, length, map, take}
use Rattle.mq_replica.specs.Plans.{written_as}
use Rattle.mq_replica.proofs.plan.writes_of.Given as goal

-- the first writes are copied
abbrev pub invariant-loop-block : goal.invariant-loop-block
invariant-loop-block l = record {
  copied : map written_as l.all.items ≡ take l.block-index l.writes;
  whole : All (λ w. length w.content ≡ 4096) l.all.items;
  whose : l.writes ≡ l.fn.update.writes;
}
