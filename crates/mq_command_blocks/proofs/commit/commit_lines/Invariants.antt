use Rattle.std.proofs.Common.{◌≡◌, []}
use Rattle.mq_command_blocks.proofs.CommitsTextSteps.{SoFar}
use Rattle.mq_command_blocks.proofs.commit.commit_lines.Given as goal

-- the lines so far are committed
abbrev pub invariant-loop-line : goal.invariant-loop-line
invariant-loop-line g l =
    let state = g.P.Port.state in
    record {
      number : l.number ≡ l.line-index;
      so_far : SoFar l.geometry (state l.fn.queue.port) (state l.queue.port) l.fn.text l.line-index l.next l.last;
      no_fault : g.P.Port.faults l.queue.port ≡ g.P.Port.faults l.fn.queue.port;
      rung : l.queue.rung.items ≡ [];
    }
