use Rattle.mq_pmr.proofs.Ring.{certain, room_of}
use Rattle.mq_pmr.proofs.queue.PmrQueue.into_port.Goals as goal

pub returns-clause-certain : goal.returns-clause-certain
returns-clause-certain g c =
    let q = c.args.self in
    certain q.geometry q.queue (g.P.Port.state q.port) q.own.port q.held.flushed (room_of (g.P.Port.state q.port) (record { slots = q.slots.items; end = q.end; head = q.head; stored_head = q.stored_head; passed = q.passed; done = q.done; rung = q.rung.items; staged = q.staged }) q.fits)
