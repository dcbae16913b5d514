use Rattle.std.proofs.Common.{◌≡◌}
use Rattle.mq_core.specs.Start.{fresh_ports}
use Rattle.mq_core.proofs.machine.fresh_queues.Given as goal

-- the ports so far
abbrev pub invariant-loop-q : goal.invariant-loop-q
invariant-loop-q l = l.ports.items ≡ fresh_ports l.geometry l.blocks 0 l.q
