use Rattle.std.proofs.Common.{◌≡◌, ◌++◌, map, take, drop}
use Rattle.mq_recover.specs.RecoverHomes.{after_move}
use Rattle.mq_recover.proofs.homes.move_heads.Given as goal

-- the heads before the index went to their doorbells
abbrev pub invariant-loop-queue : goal.invariant-loop-queue
invariant-loop-queue g l =
    let states = map g.P.Port.state l.fn.queues in
    record {
      moved : map g.P.Port.state l.queue-items ≡ map after_move (take l.queue-index states) ++ drop l.queue-index states;
      faults : map g.P.Port.faults l.queue-items ≡ map g.P.Port.faults l.fn.queues;
    }
