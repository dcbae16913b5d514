use Rattle.std.proofs.Common.{List}
use Rattle.mq_blocks.specs.Drive.{PortState}
use Rattle.mq_drive.specs.Steps.{PortFault}
use Rattle.mq_pmr.specs.Queue.{Kept}
use Rattle.mq_pmr.proofs.QueueFitting.{home_fits, ends-along}
use Rattle.mq_pmr.proofs.Ring.{home_held}
use Rattle.mq_pmr.proofs.QueueOwning.{home_ring, home_ends}
use Rattle.mq_pmr.proofs.Written.{home_written}
use Rattle.mq_pmr.proofs.queue.PmrQueue.write_home.Goals as goal

pub invariant_of-self : goal.invariant_of-self
invariant_of-self g c =
    let q = c.args.self.now in
    let old : PortState = g.P.Port.state q.port in
    let new : PortState = g.P.Port.state c.write_home.new.self in
    let was : List PortFault = g.P.Port.faults q.port in
    let more : List PortFault = g.P.Port.faults c.write_home.new.self in
    let kept : Kept = record { slots = q.slots.items; end = q.end; head = q.head; stored_head = q.stored_head; passed = q.passed; done = q.done; rung = q.rung.items; staged = q.staged } in
    let gives = c.write_home.ensures in
    let ring = home_held (g.P.Port.state q.opened.value) old new was more c.args.lba c.args.block c.write_home.result q.done q.rung.items q.staged gives (q.whole, q.held) in
    record {
      fits = home_fits old new was more c.args.lba c.args.block c.write_home.result kept gives q.fits;
      own = home_ring q.geometry q.queue old new was more c.args.lba c.args.block c.write_home.result gives q.own;
      ends = ends-along old new q.done.end q.rung.items (home_ends old new was more c.args.lba c.args.block c.write_home.result gives).doorbell q.ends;
      written = home_written old new was more c.args.lba c.args.block c.write_home.result q.slots.items q.done.end q.end gives q.written;
      whole = ring.0;
      held = ring.1;
      reserved = q.reserved;
    }
