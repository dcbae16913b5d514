use Rattle.std.proofs.Common.{◌≡◌, ◌<◌}
use Rattle.mq_turns.specs.AtDesk.{AtDesk, view}
use Rattle.mq_journal.specs.Sweeping.{HasDrained}
use Rattle.mq_journal.proofs.sweeping.drain_all.Given as goal

abbrev pub invariant-loop-queue : goal.invariant-loop-queue
invariant-loop-queue g l = record {
  at : AtDesk l.desk l.chair;
  drained : HasDrained g.P.Port.state g.P.Port.faults g.G.Groups.group l.fn.queues l.queue l.fn.at (view l.fn.chair) (view l.chair);
  hand : 0 < l.queue → (view l.chair).hand ≡ 0;
}
