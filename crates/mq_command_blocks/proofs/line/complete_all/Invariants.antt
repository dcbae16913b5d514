use Rattle.std.proofs.Common.{◌≡◌, ◌-◌, length}
use Rattle.mq_command_blocks.proofs.RunsEnding.{Goes}
use Rattle.mq_command_blocks.specs.Cuts.{HasEnded}
use Rattle.mq_command_blocks.proofs.line.complete_all.Given as goal

-- what is left leads to the end that all lead to
abbrev pub invariant-completion : goal.invariant-completion
invariant-completion g l =
    let state = g.P.Port.state in
    record {
      goes : Goes (state l.fn.queue.port) (state l.queue.port);
      ended : HasEnded (state l.fn.queue.port) (state l.queue.port) (length (state l.fn.queue.port).posted - length (state l.queue.port).posted);
      no_fault : g.P.Port.faults l.queue.port ≡ g.P.Port.faults l.fn.queue.port;
      done : l.queue.done ≡ l.fn.queue.done;
      rung : l.queue.rung.items ≡ l.fn.queue.rung.items;
    }

abbrev pub decreases-completion : goal.decreases-completion
decreases-completion g l = length (g.P.Port.state l.queue.port).posted
