use Rattle.std.proofs.Common.{◌≡◌, ◌<◌, ◌^◌}
use Rattle.mq_recover.specs.Drives.{states}
use Rattle.mq_recover.proofs.DrivesQueueReads.{AreReadTo}
use Rattle.mq_recover.proofs.queues.read_queues.Given as goal

-- the queues so far are read
abbrev pub invariant-loop-q : goal.invariant-loop-q
invariant-loop-q g l = record {
  read : AreReadTo g.D.Descriptors.accepts l.fn.geometry (states g.P.Port.state l.ports.queues.items l.ports.root) l.q l.chains.items l.top;
  fits : l.top < 2 ^ 64;
  base_is : l.base ≡ l.fn.base;
}
