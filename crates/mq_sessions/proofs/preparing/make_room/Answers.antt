use Rattle.std.proofs.Common.{inr, sym, subst}
use Rattle.mq_blocks.specs.Geometry.{area_of}
use Rattle.mq_blocks.specs.declared.geometry.Geometry.{Geometry}
use Rattle.mq_queue_side.specs.Stored.{FitIs, rows_of}
use Rattle.mq_queue_side.specs.declared.answers.Fit.TheVariants.{Yes}
use Rattle.mq_turns.specs.AtDesk.{start_of, view}
use Rattle.mq_sessions.proofs.ActsCauses.{drain-caused}
use Rattle.mq_sessions.proofs.PreparingRoom.{rests-fit}
use Rattle.mq_sessions.proofs.preparing.make_room.Goals as goal

pub returns-in-Err-clause-lacks : goal.returns-in-Err-clause-lacks
returns-in-Err-clause-lacks g c =
    (c.in-Err.ensures.shows, drain-caused g.P.Port.state g.P.Port.faults g.G.Groups.group (start_of c.args.desk.now) c.args.side.now.pmr.queue (view c.args.chair.now) c.requires.at.1 c.args.side.now c.drain_held.new.side c.in-Err.cause c.requires.side c.in-Err.ensures.drained)

pub returns-in-Ok-clause-fits : goal.returns-in-Ok-clause-fits
returns-in-Ok-clause-fits g c =
    let st = g.P.Port.state in
    let s = c.args.side.now in
    let u = c.drain_held.new.side in
    let plan = c.args.plan.now in
    let base = c.args.base in
    let e = c.in-Ok.ensures in
    let fits = rests-fit s.pmr.geometry base (rows_of s.stored.items) (st s.pmr.port) (st u.pmr.port) plan c.requires.few e.rests.0 c.in-Ring.ensures in
    subst (λ (x : Geometry). FitIs (area_of x) base (rows_of u.stored.items) (st u.pmr.port) plan Yes) (sym e.parts.geometry)
    (subst (λ ds. FitIs (area_of s.pmr.geometry) base (rows_of ds.items) (st u.pmr.port) plan Yes) (sym e.parts.stored) fits)

pub returns-in-Ok-clause-drains : goal.returns-in-Ok-clause-drains
returns-in-Ok-clause-drains g c = inr (c.in-Ring.ensures, (_, c.in-Ok.ensures.drained))

pub returns-in-Err-clause-drains : goal.returns-in-Err-clause-drains
returns-in-Err-clause-drains g c = inr (c.in-Ring.ensures, (_, c.in-Err.ensures.drained))
