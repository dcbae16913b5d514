use Rattle.std.proofs.Common.{refl}
use Rattle.mq_queue_side.specs.Side.{SideState, side_state}
use Rattle.mq_queue_side.proofs.SideEnds.{SameRecords}
use Rattle.mq_queue_side.proofs.CountsSides.{home_counts}
use Rattle.mq_queue_side.proofs.SideHomeWrites.{home_stays, home_goes}
use Rattle.mq_queue_side.proofs.Told.{told_home}
use Rattle.mq_queue_side.proofs.side.QueueSide.write_home.Goals as goal

pub returns-clause-stays : goal.returns-clause-stays
returns-clause-stays g c =
    let old : SideState = side_state g.P.Port.state g.P.Port.faults c.args.self.now in
    let ring = c.write_home.new.self in
    let new : SideState = record { geometry = ring.geometry; queue = ring.queue; port = g.P.Port.state ring.port; faults = g.P.Port.faults ring.port; passed = ring.done; rung = ring.rung.items; done = c.args.self.now.done; kept = c.args.self.now.kept } in
    let same : SameRecords old new = record { geometry = c.write_home.ensures.own.0; queue = c.write_home.ensures.own.1; passed = c.write_home.ensures.done; rung = c.write_home.ensures.rung; done = refl } in
    home_stays old new c.args.lba c.args.block same refl c.write_home.result c.write_home.ensures.home

pub returns-clause-goes : goal.returns-clause-goes
returns-clause-goes g c =
    let old : SideState = side_state g.P.Port.state g.P.Port.faults c.args.self.now in
    let ring = c.write_home.new.self in
    let new : SideState = record { geometry = ring.geometry; queue = ring.queue; port = g.P.Port.state ring.port; faults = g.P.Port.faults ring.port; passed = ring.done; rung = ring.rung.items; done = c.args.self.now.done; kept = c.args.self.now.kept } in
    let same : SameRecords old new = record { geometry = c.write_home.ensures.own.0; queue = c.write_home.ensures.own.1; passed = c.write_home.ensures.done; rung = c.write_home.ensures.rung; done = refl } in
    home_goes old new c.args.lba c.args.block same refl c.write_home.result c.write_home.ensures.home

pub returns-clause-counts : goal.returns-clause-counts
returns-clause-counts g c =
    let old : SideState = side_state g.P.Port.state g.P.Port.faults c.args.self.now in
    let ring = c.write_home.new.self in
    let new : SideState = record { geometry = ring.geometry; queue = ring.queue; port = g.P.Port.state ring.port; faults = g.P.Port.faults ring.port; passed = ring.done; rung = ring.rung.items; done = c.args.self.now.done; kept = c.args.self.now.kept } in
    let same : SameRecords old new = record { geometry = c.write_home.ensures.own.0; queue = c.write_home.ensures.own.1; passed = c.write_home.ensures.done; rung = c.write_home.ensures.rung; done = refl } in
    λ first q k us log s n. home_counts first k q us old new c.args.lba c.args.block c.write_home.result same c.write_home.ensures.home n

pub returns-clause-told : goal.returns-clause-told
returns-clause-told g c first d = told_home first _ _ _ _ c.args.lba c.args.block c.write_home.result c.args.self.now.kept c.write_home.ensures.home d
