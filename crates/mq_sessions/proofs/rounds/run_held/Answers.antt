use Rattle.std.proofs.Common.{◌≡◌, ℕ, List, length, sym, ap, subst, arith}
use Rattle.mq_blocks.specs.Geometry.{homes_of}
use Rattle.mq_turns.specs.AtDesk.{start_of, view}
use Rattle.mq_journal.specs.Machine.{journal}
use Rattle.mq_sessions.specs.Wanted.{AreWanted, HoldsWanted}
use Rattle.mq_sessions.proofs.WantedFurther.{alone, held-none, looked-none, more-held, nothing-held, room-alone}
use Rattle.mq_sessions.proofs.rounds.run_held.Goals as goal

pub take_pages-requires-clause-room : goal.take_pages-requires-clause-room
take_pages-requires-clause-room g c =
    let few = room-alone (homes_of c.args.geometry) c.args.wanted.now.items c.requires.wanted in
    let same : length c.deref.result.now ≡ length c.args.wanted.now.items = ap length c.deref.ensures.value in
    let empty : length c.args.held.now.cells ≡ 0 = ap length c.requires.idle.1 in
    let room = c.requires.room in
    omega arith

pub run_in_rounds-requires-clause-holds : goal.run_in_rounds-requires-clause-holds
run_in_rounds-requires-clause-holds g c =
    let o = start_of c.args.desk.now in
    let looked = c.look_only.ensures.looked in
    let none = looked-none (journal g.P.Port.state g.P.Port.faults g.G.Groups.group) o c.args.held.now.cells (view c.args.chair.now) (view c.look_only.new.chair) looked.0 c.requires.idle.0 c.requires.idle.1 looked.1 looked.2 in
    let wanted = subst (AreWanted (homes_of c.args.geometry)) (sym c.deref.ensures.value) c.requires.wanted in
    let e = c.take_pages.ensures in
    let now = more-held (journal g.P.Port.state g.P.Port.faults g.G.Groups.group) o _ c.deref.result.now c.deref.result.now c.args.held.now.cells c.take_pages.new.held.cells (view c.look_only.new.chair) (view c.take_pages.new.chair) none e.took e.pages e.cells (alone (homes_of c.args.geometry) c.deref.result.now wanted) in
    subst (λ (xs : List ℕ). HoldsWanted (journal g.P.Port.state g.P.Port.faults g.G.Groups.group) o xs c.take_pages.new.held.cells (view c.take_pages.new.chair)) c.deref.ensures.value now

pub returns-in-Err-clause-idle : goal.returns-in-Err-clause-idle
returns-in-Err-clause-idle g c =
    let o = start_of c.args.desk.now in
    let e = c.give_back_pages.ensures in
    let none = nothing-held (journal g.P.Port.state g.P.Port.faults g.G.Groups.group) o c.run_in_rounds.new.wanted.items c.run_in_rounds.new.held.cells c.give_back_pages.new.held.cells (view c.run_in_rounds.new.chair) (view c.give_back_pages.new.chair) c.in-Err.ensures.holds e.cells e.gave in
    (held-none (journal g.P.Port.state g.P.Port.faults g.G.Groups.group) o c.give_back_pages.new.held.cells (view c.give_back_pages.new.chair) none.pages e.cells, e.cells)
