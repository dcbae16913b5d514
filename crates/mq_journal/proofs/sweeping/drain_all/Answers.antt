use Rattle.std.proofs.Common.{length, arith}
use Rattle.std.proofs.lemmas.Result.{err_from_is_err_and}
use Rattle.mq_turns.specs.AtDesk.{start_of, view}
use Rattle.mq_journal.proofs.SweepingDrains.{all_drained, drained_above, drained_next, drained_none, drained_seen, names_upto, passes_hand, refused}
use Rattle.mq_journal.proofs.sweeping.drain_all.Goals as goal

pub loop-queue-init : goal.loop-queue-init
loop-queue-init g c = record {
  at = c.requires.at;
  drained = drained_none g.P.Port.state g.P.Port.faults g.G.Groups.group c.args.queues c.args.at (view c.args.chair.now);
  hand = λ some. absurd (omega arith);
}

pub drain-requires-clause-above : goal.drain-requires-clause-above
drain-requires-clause-above g c =
    let state = g.P.Port.state in
    let faults = g.P.Port.faults in
    let group = g.G.Groups.group in
    drained_above state faults group (length (start_of c.args.desk.now).pages) c.args.queues c.loop-queue.queue c.args.at (view c.args.chair.now) (view c.loop-queue.chair) c.loop-queue.invariant.drained c.requires.pages

pub drain-requires-clause-seen : goal.drain-requires-clause-seen
drain-requires-clause-seen g c =
    let state = g.P.Port.state in
    let faults = g.P.Port.faults in
    let group = g.G.Groups.group in
    drained_seen state faults group c.args.queues c.loop-queue.queue c.args.at (view c.args.chair.now) (view c.loop-queue.chair) c.loop-queue.invariant.drained c.requires.seen

pub returns-in_err-drain-clause-refused : goal.returns-in_err-drain-clause-refused
returns-in_err-drain-clause-refused g c =
    let state = g.P.Port.state in
    let faults = g.P.Port.faults in
    let group = g.G.Groups.group in
    let p = err_from_is_err_and c.from_residual.result c.from_residual.ensures.1 in
    let e = c.in_err-drain.ensures in
    rw (p.1, p.2) (refused state faults group c.args.queues c.loop-queue.queue c.args.at c.in_err-drain.field-0.0 (view c.args.chair.now) (view c.loop-queue.chair) (view c.drain.new.chair) c.loop-queue-test.true c.loop-queue.invariant.drained e.drained e.refused)

pub returns-in_err-drain-clause-upto : goal.returns-in_err-drain-clause-upto
returns-in_err-drain-clause-upto g c =
    let state = g.P.Port.state in
    let faults = g.P.Port.faults in
    let group = g.G.Groups.group in
    let p = err_from_is_err_and c.from_residual.result c.from_residual.ensures.1 in
    rw (p.1, p.2) (names_upto state faults group c.loop-queue.queue c.args.at c.in_err-drain.field-0.0 (view c.loop-queue.chair) (view c.drain.new.chair) c.in_err-drain.ensures.drained)

pub loop-queue-preserved : goal.loop-queue-preserved
loop-queue-preserved g c =
    let state = g.P.Port.state in
    let faults = g.P.Port.faults in
    let group = g.G.Groups.group in
    let i = c.loop-queue.invariant in
    let e = c.in_ok-drain.ensures in
    record {
      at = e.at;
      drained = drained_next state faults group (start_of c.args.desk.now) c.args.queues c.loop-queue.queue c.args.at _ (view c.args.chair.now) (view c.loop-queue.chair) (view c.drain.new.chair) i.at.1 c.requires.queues i.drained e.drained.passed;
      hand = λ some. passes_hand state faults group c.loop-queue.queue c.args.at _ (view c.loop-queue.chair) (view c.drain.new.chair) e.drained.passed;
    }

pub returns-clause-done : goal.returns-clause-done
returns-clause-done g c = c.loop-queue.invariant.drained.passed.ended (omega arith) (omega arith)

pub returns-clause-swept : goal.returns-clause-swept
returns-clause-swept g c =
    let state = g.P.Port.state in
    let faults = g.P.Port.faults in
    let group = g.G.Groups.group in
    let i = c.loop-queue.invariant in
    all_drained state faults group c.args.queues c.loop-queue.queue c.args.at (view c.args.chair.now) (view c.loop-queue.chair) (i.hand (omega arith)) i.drained
