use Rattle.std.proofs.Common.{◌≡◌, map, take}
use Rattle.mq_sessions.specs.Plans.{planned_with}
use Rattle.mq_sessions.proofs.planning.plan_writes.Given as goal

abbrev pub invariant-loop-write : goal.invariant-loop-write
invariant-loop-write l = l.planned.items ≡ map (planned_with l.held.cells) (take l.write-index l.writes)
