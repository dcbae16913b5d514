use Rattle.std.proofs.Common.{[], replicate, refl, ap, ◌∙◌}
use Rattle.mq_blocks.specs.Geometry.{homes_of}
use Rattle.mq_recover.specs.Drives.{drive_of}
use Rattle.mq_loose_queues.specs.Changes.{first_change}
use Rattle.mq_loose_queues.proofs.Opened.{idle_over, opened_over, opens_over}
use Rattle.mq_loose_queues.proofs.queues.LooseQueues.open.Goals as goal

pub open_sides-requires-clause-idle : goal.open_sides-requires-clause-idle
open_sides-requires-clause-idle g c = λ q p at. idle_over g.P.Port.state c.args.geometry c.args.ports c.args.standing c.requires q p at

pub returns-in-Ok-open_sides-clause-ok : goal.returns-in-Ok-open_sides-clause-ok
returns-in-Ok-open_sides-clause-ok g c =
    let state = g.P.Port.state in
    let may = opens_over c.args.geometry (drive_of state c.args.ports) c.args.standing c.requires in
    let changes = c.in-Ok.ensures ∙ ap (λ b. replicate (homes_of c.args.geometry) (first_change b)) c.requires.base_is in
    opened_over state g.P.Port.faults c.args.geometry c.args.ports (record { geometry = c.args.geometry; sides = c.in-Ok-open_sides.sides; root = c.open.result; changes = c.in-Ok.changes; rows = c.new.result; flags = c.new-in-Ok-open_sides.result }) c.in-Ok-open_sides.ensures.ports c.in-Ok-open_sides.ensures.sides _ may refl c.open.ensures changes c.new.ensures.items c.new-in-Ok-open_sides.ensures.items

pub invariant_of-result : goal.invariant_of-result
invariant_of-result g c =
    let state = g.P.Port.state in
    let may = opens_over c.args.geometry (drive_of state c.args.ports) c.args.standing c.requires in
    let changes = c.in-Ok.ensures ∙ ap (λ b. replicate (homes_of c.args.geometry) (first_change b)) c.requires.base_is in
    let opened = opened_over state g.P.Port.faults c.args.geometry c.args.ports (record { geometry = c.args.geometry; sides = c.in-Ok-open_sides.sides; root = c.open.result; changes = c.in-Ok.changes; rows = c.new.result; flags = c.new-in-Ok-open_sides.result }) c.in-Ok-open_sides.ensures.ports c.in-Ok-open_sides.ensures.sides _ may refl c.open.ensures changes c.new.ensures.items c.new-in-Ok-open_sides.ensures.items in
    record {
      journal = ∣ (_, [], opened.journal) ∣₁;
      empty = c.in-Ok-open_sides.ensures.room.0;
      room = c.in-Ok-open_sides.ensures.room.1;
    }
