use Rattle.std.proofs.Common.{◌≡◌, ◌-◌}
use Rattle.mq_replica.specs.Feeding.{IsFeeder, after_heard}
use Rattle.mq_replica.proofs.feeder.Feeder.heard.Given as goal

-- what is left to hear leads to the same
abbrev pub invariant-loop-reached : goal.invariant-loop-reached
invariant-loop-reached l = record {
  feeder : IsFeeder (record { acknowledged = l.self-inside.acknowledged; waiting = l.self-inside.waiting.items });
  same : l.reached ≡ l.fn.reached;
  on : after_heard l.reached (record { acknowledged = l.self-inside.acknowledged; waiting = l.self-inside.waiting.items }) ≡ after_heard l.fn.reached l.fn.self;
}

abbrev pub decreases-loop-reached : goal.decreases-loop-reached
decreases-loop-reached l = l.reached - l.self-inside.acknowledged
