use Rattle.std.proofs.Common.{sym, ap, subst, ◌∙◌}
use Rattle.mq_desk_laws.specs.Rule.{shape_of}
use Rattle.mq_turns.specs.AtDesk.{view, start_of}
use Rattle.mq_turns.specs.Desk.{Sees, slot_of}
use Rattle.mq_turns.specs.declared.turn.Turn.TheVariants.{Side}
use Rattle.mq_turns.proofs.DeskSeen.{opening_seen}
use Rattle.mq_journal.specs.Numbers.{HoldsSide, machine, values}
use Rattle.mq_journal.proofs.DrainingRefusing.{taken_holds, taken_seen}
use Rattle.mq_journal.proofs.held.take_side.Goals as goal

pub returns-clause-took : goal.returns-clause-took
returns-clause-took g c =
    let took = c.in-Side.ensures.took in
    record { known = took.0; is = took.1; sees = took.2; side = took.3 }

pub returns-clause-queue : goal.returns-clause-queue
returns-clause-queue g c = c.in-Side.ensures.took.3.says.is.queue

pub returns-clause-geometry : goal.returns-clause-geometry
returns-clause-geometry g c =
    let state = g.P.Port.state in
    let faults = g.P.Port.faults in
    let group = g.G.Groups.group in
    let took = c.in-Side.ensures.took in
    let start = opening_seen (machine state faults group) (start_of c.args.desk.now) took.0 (view c.args.chair.now) c.requires.at.1 took.2 in
    took.3.says.is.geometry ∙ ap (shape_of (values state faults group) group) start

pub returns-clause-side : goal.returns-clause-side
returns-clause-side g c =
    let state = g.P.Port.state in
    let faults = g.P.Port.faults in
    let group = g.G.Groups.group in
    let o = start_of c.args.desk.now in
    let took = c.in-Side.ensures.took in
    let q = c.args.queue in
    let s = c.in-Side.side in
    subst (λ v. HoldsSide state faults group o q s v) (sym took.1) (taken_holds state faults group o q s took.0 (view c.args.chair.now) c.requires.turn c.requires.above took.3)

pub returns-clause-known : goal.returns-clause-known
returns-clause-known g c =
    let state = g.P.Port.state in
    let faults = g.P.Port.faults in
    let group = g.G.Groups.group in
    let took = c.in-Side.ensures.took in
    (took.0, subst (λ v. Sees (machine state faults group) v took.0) (sym took.1) (taken_seen state faults group (slot_of (start_of c.args.desk.now) (Side c.args.queue)) took.0 (view c.args.chair.now) took.2))
