use Rattle.std.proofs.Common.{◌∙◌}
use Rattle.std.proofs.lemmas.Result.{err_from_is_err_and}
use Rattle.mq_recover.specs.Drives.{DriveState, states}
use Rattle.mq_recover.specs.Events.{home_events, StopsAt}
use Rattle.mq_recover.proofs.StepsEvents.{IsNext, next-home, next-cut}
use Rattle.mq_recover.proofs.homes.write_homes.Goals as goal

pub loop-b-preserved : goal.loop-b-preserved
loop-b-preserved g c =
    let state = g.P.Port.state in
    let inv = c.loop-b.invariant in
    let start : DriveState = states state c.args.ports.now.queues.items c.args.ports.now.root in
    let at : DriveState = states state c.loop-b.ports.queues.items c.loop-b.ports.root in
    let then : DriveState = states state c.write_one.new.ports.queues.items c.write_one.new.ports.root in
    let next : IsNext c.args.geometry start c.args.writes.items c.pop_front.new.self.items then =
    next-home c.args.geometry start c.args.writes.items c.loop-b.writes.items c.pop_front.new.self.items _ at then _ inv.ports c.in-Some.ensures.items inv.below inv.so_far c.in_ok-write_one.ensures.gives in
    record {
      ports = next.ports;
      below = next.below;
      so_far = next.so_far;
      faults = c.in_ok-write_one.ensures.cause ∙ inv.faults;
    }

pub returns-in_err-write_one-clause-drive : goal.returns-in_err-write_one-clause-drive
returns-in_err-write_one-clause-drive g c =
    let state = g.P.Port.state in
    let p = err_from_is_err_and c.from_residual.result c.from_residual.ensures.1 in
    let start : DriveState = states state c.args.ports.now.queues.items c.args.ports.now.root in
    let at : DriveState = states state c.loop-b.ports.queues.items c.loop-b.ports.root in
    let then : DriveState = states state c.write_one.new.ports.queues.items c.write_one.new.ports.root in
    let stops : StopsAt c.args.geometry c.in_err-write_one.field-0.0 start (home_events c.args.writes.items) then =
    next-cut _ c.args.geometry c.in_err-write_one.field-0.0 start c.args.writes.items c.loop-b.writes.items c.pop_front.new.self.items _ at then
    c.in-Some.ensures.items c.loop-b.invariant.so_far c.in_err-write_one.ensures.gives in
    rw (p.1, p.2) stops
