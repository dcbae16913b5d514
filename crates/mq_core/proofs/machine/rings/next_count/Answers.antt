use Rattle.std.proofs.Common.{◌≡◌, ◌<◌, ◌^◌, length, sym, ap, subst, ◌∙◌, arith}
use Rattle.mq_blocks.specs.Drive.{PortState, staged_end}
use Rattle.mq_ledger.specs.State.{port_at}
use Rattle.mq_core.proofs.MachineLifts.{same_port}
use Rattle.mq_core.proofs.MachineParts.{low, small}
use Rattle.mq_core.proofs.machine.rings.next_count.Goals as goal
use Rattle.mq_core.proofs.machine.rings.next_count.Goals.{Else-at-ports, After-index-ports-at}

own : (c : Else-at-ports) → c.args.queue < c.args.ledger.now.geometry.queues
own c = omega (arith, c.requires.held.sides.ports, c.queue.view_is)

is_port : (c : After-index-ports-at) → c.index-ports-at.result ≡ port_at c.args.ports.now c.args.queue
is_port c =
    let inside : c.queue.inside.0 < length c.args.ports.now = omega arith in
    same_port c.args.ports.now c.args.queue c.queue.inside.0 c.index-ports-at.result inside c.queue.view_is c.index-ports-at.is

pub staged_end-count-requires : goal.staged_end-count-requires
staged_end-count-requires c = subst (λ (p : PortState). staged_end p < 2 ^ 64) (sym (is_port (goal.at.staged_end-count-requires c).After-index-ports-at)) (small c.args.ledger.now c.args.ports.now c.requires c.args.queue (own (goal.at.staged_end-count-requires c).Else-at-ports))

pub returns-then-at-ports : goal.returns-then-at-ports
returns-then-at-ports c = record { none = λ a. absurd (omega (arith, a.0, c.requires.held.sides.ports, c.queue.view_is)); some = tt }

pub returns-then-count-end : goal.returns-then-count-end
returns-then-count-end c =
    let is = ap staged_end (is_port (goal.at.returns-then-count-end c).After-index-ports-at) in
    record { none = λ a. absurd (omega (arith, a.1, c.staged_end-count.ensures, is, c.end.ensures.is, c.if-count-end.true)); some = tt }

pub returns : goal.returns
returns c =
    let at = (goal.at.returns c).Else-at-ports in
    let is = ap staged_end (is_port (goal.at.returns c).After-index-ports-at) in
    let from = low c.args.ledger.now c.args.ports.now c.requires c.args.queue (own at) in
    record {
      none = tt;
      some = (own at, c.staged_end-count.ensures ∙ is, omega (arith, from, c.staged_end-count.ensures, is), omega (arith, c.end.ensures.is, c.if-count-end.false));
    }
