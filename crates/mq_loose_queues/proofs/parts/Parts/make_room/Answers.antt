use Rattle.std.proofs.Common.{arith}
use Rattle.mq_loose_queues.specs.Queues.{parts_state}
use Rattle.mq_loose_queues.proofs.Readied.{flags_any}
use Rattle.mq_loose_queues.proofs.parts.Parts.make_room.Goals as goal

pub returns-clause-flags : goal.returns-clause-flags
returns-clause-flags g c =
    let old = c.args.self.now in
    let same = flags_any (parts_state g.P.Port.state g.P.Port.faults old) c.requires in
    let rows = c.in_ok-reserve.ensures.len in
    let room = c.in_ok-reserve-2.ensures.ok in
    let flags = c.in_ok-reserve-2.ensures.len in
    omega (arith, same, rows, room, flags, old.rows.ok.0, old.flags.ok.0)
