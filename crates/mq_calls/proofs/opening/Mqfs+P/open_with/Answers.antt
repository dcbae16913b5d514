use Rattle.std.proofs.Common.{◌≡◌, ◌+◌, ◌<◌, ◌++◌, length, map, refl, sym, ap, subst, ◌∙◌, arith}
use Rattle.std.specs.Prelude.{slice_get}
use Rattle.std.proofs.lemmas.Option.{slice_get_within}
use Rattle.mq_blocks.specs.Geometry.{queues_of}
use Rattle.mq_calls.specs.Group.{file_group}
use Rattle.mq_desk_laws.proofs.Meaning.{starts}
use Rattle.mq_turns.specs.AtDesk.{start_of, view}
use Rattle.mq_calls.specs.Opening.{IsEquipped, IsOpenedOver, stored_map}
use Rattle.mq_calls.specs.Runs.{file_values, geometry_at}
use Rattle.mq_calls.proofs.OpeningVolume.{get-first, get-second, new-helper, outside}
use Rattle.mq_sessions.proofs.OpeningFresh.{opened-over, sides-count}
use Rattle.mq_sessions.proofs.OpeningSessions.{all-at, map-place, new-session}
use Rattle.mq_sessions.proofs.OpeningState.{first-count, idle-each}
use Rattle.mq_tree.specs.Laid.{map_of}
use Rattle.mq_calls.proofs.opening.Mqfs+P.open_with.Goals as goal

pub open_sides-requires-clause-idle : goal.open_sides-requires-clause-idle
open_sides-requires-clause-idle g c = idle-each c.args.geometry g.P.Port.state c.args.ports.queues.items (g.P.Port.state c.args.ports.root) (stored_map c.args.geometry c.args.standing.blocks.items) c.requires.drive.start

pub open_desk-requires-clause-starts : goal.open_desk-requires-clause-starts
open_desk-requires-clause-starts g c =
    let over = opened-over g.P.Port.state g.P.Port.faults file_group c.args.geometry (map_of c.args.geometry c.args.standing.blocks.items) c.args.ports c.args.standing (record { pages = c.in-Ok.provisions.cells.items; sides = c.in-Ok-open_sides.opened.0.items; root = c.open-root.result; base = c.args.standing.base })
    c.requires.drive.start c.requires.drive.base (outside c.args.geometry c.args.standing.blocks.items) c.requires.drive.mounts c.in-Ok.ensures.cells refl c.in-Ok-open_sides.ensures.ports c.open-root.ensures c.in-Ok-open_sides.ensures.sides in
    starts (file_values g.P.Port.state g.P.Port.faults) file_group _ over.fresh

pub invariant_of-result-clause-shape : goal.invariant_of-result-clause-shape
invariant_of-result-clause-shape g c =
    let over = opened-over g.P.Port.state g.P.Port.faults file_group c.args.geometry (map_of c.args.geometry c.args.standing.blocks.items) c.args.ports c.args.standing (record { pages = c.in-Ok.provisions.cells.items; sides = c.in-Ok-open_sides.opened.0.items; root = c.open-root.result; base = c.args.standing.base })
    c.requires.drive.start c.requires.drive.base (outside c.args.geometry c.args.standing.blocks.items) c.requires.drive.mounts c.in-Ok.ensures.cells refl c.in-Ok-open_sides.ensures.ports c.open-root.ensures c.in-Ok-open_sides.ensures.sides in
    ap (λ o. geometry_at g.P.Port.state g.P.Port.faults o) c.in-Ok-open_desk.ensures.desk.0 ∙ over.shape

pub invariant_of-result-clause-pages : goal.invariant_of-result-clause-pages
invariant_of-result-clause-pages g c = ap (λ o. length o.pages) c.in-Ok-open_desk.ensures.desk.0 ∙ (ap length c.in-Ok.ensures.cells ∙ first-count c.args.geometry (map_of c.args.geometry c.args.standing.blocks.items) c.args.standing.base)

pub invariant_of-result-clause-sides : goal.invariant_of-result-clause-sides
invariant_of-result-clause-sides g c = ap (λ o. length o.sides) c.in-Ok-open_desk.ensures.desk.0 ∙ sides-count g.P.Port.state c.args.geometry c.args.ports (stored_map c.args.geometry c.args.standing.blocks.items) c.in-Ok-open_sides.opened.0.items c.requires.drive.start c.in-Ok-open_sides.ensures.ports

pub returns-in-Ok-open_desk-clause-desk : goal.returns-in-Ok-open_desk-clause-desk
returns-in-Ok-open_desk-clause-desk g c =
    let over = opened-over g.P.Port.state g.P.Port.faults file_group c.args.geometry (map_of c.args.geometry c.args.standing.blocks.items) c.args.ports c.args.standing (record { pages = c.in-Ok.provisions.cells.items; sides = c.in-Ok-open_sides.opened.0.items; root = c.open-root.result; base = c.args.standing.base })
    c.requires.drive.start c.requires.drive.base (outside c.args.geometry c.args.standing.blocks.items) c.requires.drive.mounts c.in-Ok.ensures.cells refl c.in-Ok-open_sides.ensures.ports c.open-root.ensures c.in-Ok-open_sides.ensures.sides in
    subst (λ o. IsOpenedOver g.P.Port.state g.P.Port.faults c.args.geometry c.args.ports c.args.standing o) (sym c.in-Ok-open_desk.ensures.desk.0) over

pub returns-in-Ok-open_desk-clause-each : goal.returns-in-Ok-open_desk-clause-each
returns-in-Ok-open_desk-clause-each g c = λ i s e.
    let seats = c.set_apart-chairs.result.0 in
    let aides = c.set_apart-chairs.result.1 in
    let own = map-place (λ s. s.chair) c.seat-seated.result.items seats.items i s c.seat-seated.ensures.chairs e in
    let chair = ap (λ chairs. slice_get chairs i) (sym c.set_apart-chairs.ensures.chairs) ∙ get-first seats.items (map (λ h. h.chair) aides.items) i s.chair own in
    let kit = map-place (λ s. (s.held, s.plan)) c.seat-seated.result.items c.in-Ok.provisions.kits.items i s c.seat-seated.ensures.kits e in
    let equipped = all-at (λ kit. IsEquipped c.args.geometry kit.0) c.in-Ok.provisions.kits.items i (s.held, s.plan) c.in-Ok.ensures.kits.1 kit in
    let seated = c.in-Ok-open_desk.ensures.chairs.1 i s.chair chair in
    let within = slice_get_within seats.items i s.chair own in
    let low : i < queues_of c.args.geometry =
    let count = c.set_apart-chairs.ensures.left in
    let ok = seats.ok.0 in
    let most = c.requires.sessions.1 in
    omega arith in
    (seated.0, new-session file_group c.args.geometry (start_of c.in-Ok-open_desk.desk) i s.queue s.calls s.wanted.items s.held (view s.chair) low seated.1 (c.seat-seated.ensures.each i s e) equipped)

pub returns-in-Ok-open_desk-clause-idle : goal.returns-in-Ok-open_desk-clause-idle
returns-in-Ok-open_desk-clause-idle g c = λ i h e.
    let seats = c.set_apart-chairs.result.0 in
    let aides = c.set_apart-chairs.result.1 in
    let chairs_aside = map (λ h. h.chair) aides.items in
    let own = map-place (λ h. h.chair) aides.items chairs_aside i h refl e in
    let at : c.args.sessions + i ≡ length seats.items + i =
    let count = c.set_apart-chairs.ensures.left in
    let ok = seats.ok.0 in
    omega arith in
    let chair = ap (λ chairs. slice_get chairs (c.args.sessions + i)) (sym c.set_apart-chairs.ensures.chairs)
    ∙ (ap (λ k. slice_get (seats.items ++ chairs_aside) k) at ∙ get-second seats.items chairs_aside i h.chair own) in
    let seated = c.in-Ok-open_desk.ensures.chairs.1 (c.args.sessions + i) h.chair chair in
    (seated.0, new-helper (start_of c.in-Ok-open_desk.desk) (c.args.sessions + i) (view h.chair) seated.1)
