use Rattle.std.proofs.Common.{◌∙◌, ℕ, ◌+◌, ◌≤◌, List, length, refl, sym, ap, subst, arith}
use Rattle.std.proofs.lemmas.Result.{IfOk-weaker, err_from_is_err_and}
use Rattle.mq_blocks.specs.Descriptor.{AreRising}
use Rattle.mq_blocks.specs.Geometry.{homes_of, write_limit}
use Rattle.mq_blocks.specs.declared.geometry.Geometry.{Geometry}
use Rattle.mq_sessions.specs.Drawn.{blocks_in}
use Rattle.mq_journal.specs.Numbers.{HoldsSide}
use Rattle.mq_pages.specs.declared.page.Write.{Write}
use Rattle.mq_queue_side.specs.Commits.{IsPlanOf}
use Rattle.mq_turns.specs.AtDesk.{start_of, view}
use Rattle.mq_sessions.specs.Calls.{call_of}
use Rattle.mq_sessions.specs.Committing.{IsPlacedOn, IsPrepared, HasNoRoom}
use Rattle.mq_sessions.specs.Preparing.{IsEntryReady}
use Rattle.mq_sessions.proofs.ActsCauses.{kept-refused}
use Rattle.mq_sessions.proofs.DrawableGroups.{called-on, fits-still, is-prepared, lacks-room, meets-refusal, plan-of, writes-rise}
use Rattle.mq_sessions.proofs.CommittingInHand.{commit-prepared, commit-read, commit-side}
use Rattle.mq_sessions.proofs.PreparingRoom.{left-alone, made-ready, only-drained}
use Rattle.mq_sessions.proofs.preparing.make_ready.Goals as goal

pub returns-in-Some-clause-lacks : goal.returns-in-Some-clause-lacks
returns-in-Some-clause-lacks g c =
    let st = g.P.Port.state in
    let fs = g.P.Port.faults in
    let o = start_of c.args.desk.now in
    let s = c.args.side.now in
    let v = view c.args.chair.now in
    let kept = kept-refused st fs g.G.Groups.group o c.args.asked.now.queue (view c.args.chair.now) c.requires.at.1 c.args.side.now c.in-Some.cause c.requires.holds.side (sym c.kept_cause.ensures ∙ c.in-Some.is) in
    (kept.0, meets-refusal st fs g.G.Groups.group g.G.Executor.calls c.done_groups_are_on_maps.ensures c.done_groups_rise.ensures o s.pmr.geometry (call_of c.args.asked.now) c.args.done.now c.args.held.now.cells v v s c.in-Some.cause c.requires.at.1 c.requires.geometry refl (omega arith) refl c.requires.holds c.requires.done c.requires.few c.requires.changes kept.1)

pub place-requires-clause-rise : goal.place-requires-clause-rise
place-requires-clause-rise g c =
    let r = writes-rise g.P.Port.state g.P.Port.faults g.G.Groups.group g.G.Executor.calls c.done_groups_are_on_maps.ensures c.done_groups_rise.ensures (start_of c.args.desk.now) c.args.side.now.pmr.geometry c.args.asked.now.queue c.args.held.now.cells c.args.side.now (view c.args.chair.now) c.args.asked.now.requests.now c.args.done.now c.requires.at.1 c.requires.geometry c.requires.holds c.requires.done in
    subst (λ (ws : List Write). AreRising 0 (homes_of c.geometry-geometry.result) (blocks_in ws)) (sym c.writes.ensures)
    (subst (λ (x : Geometry). AreRising 0 (homes_of x) (blocks_in (g.G.Executor.calls.writes c.args.done.now))) (sym c.geometry-geometry.ensures) r)

pub place-requires-clause-few : goal.place-requires-clause-few
place-requires-clause-few g c =
    subst (λ (ws : List Write). length ws ≤ write_limit c.geometry-geometry.result) (sym c.writes.ensures)
    (subst (λ (x : Geometry). length (g.G.Executor.calls.writes c.args.done.now) ≤ write_limit x) (sym c.geometry-geometry.ensures) c.requires.few)

pub make_room-requires-clause-few : goal.make_room-requires-clause-few
make_room-requires-clause-few g c =
    let whole = c.in_ok-place.ensures.whole in
    let same = ap length c.writes.ensures in
    let few = c.requires.few in
    omega arith

pub prepare-requires-clause-few : goal.prepare-requires-clause-few
prepare-requires-clause-few g c = subst (λ (x : Geometry). length (g.G.Executor.calls.writes c.args.done.now) ≤ write_limit x) (sym c.make_room.ensures.keeps.geometry) c.requires.few

pub returns-in_err-place-clause-holds : goal.returns-in_err-place-clause-holds
returns-in_err-place-clause-holds g c =
    commit-read g.P.Port.state g.P.Port.faults g.G.Groups.group (start_of c.args.desk.now) c.args.asked.now.queue c.args.held.now.cells c.args.side.now (view c.args.chair.now) (view c.read_words-front.new.chair) c.read_words-front.ensures.read.words.held c.read_words-front.ensures.seen c.requires.holds

pub returns-in_err-make_room-clause-holds : goal.returns-in_err-make_room-clause-holds
returns-in_err-make_room-clause-holds g c =
    let st = g.P.Port.state in
    let fs = g.P.Port.faults in
    let o = start_of c.args.desk.now in
    let v = view c.read_words-front.new.chair in
    let own = c.make_room.ensures.keeps.queue ∙ c.requires.queue in
    let side = subst (λ (n : ℕ). HoldsSide st fs g.G.Groups.group o n c.make_room.new.side v) own c.make_room.ensures.side in
    commit-side st fs g.G.Groups.group o c.args.asked.now.queue c.args.held.now.cells c.args.side.now c.make_room.new.side v side
    (commit-read st fs g.G.Groups.group o c.args.asked.now.queue c.args.held.now.cells c.args.side.now (view c.args.chair.now) v c.read_words-front.ensures.read.words.held c.read_words-front.ensures.seen c.requires.holds)

pub prepare-requires-clause-plan : goal.prepare-requires-clause-plan
prepare-requires-clause-plan g c =
    let cells = c.args.held.now.cells in
    let q = c.args.asked.now.queue in
    let drive = c.geometry-geometry.ensures in
    let on = subst (λ (ws : List Write). IsPlacedOn c.geometry-geometry.result q c.read_words-front.result cells ws c.place.new.into) c.writes.ensures c.in_ok-place.ensures.placed in
    let here = subst (λ (x : Geometry). IsPlacedOn x q c.read_words-front.result cells (g.G.Executor.calls.writes c.args.done.now) c.place.new.into) drive on in
    let p = plan-of g.P.Port.state g.P.Port.faults g.G.Groups.group g.G.Executor.calls c.done_groups_are_on_maps.ensures c.done_groups_rise.ensures (start_of c.args.desk.now) c.args.side.now.pmr.geometry q cells c.args.side.now (view c.args.chair.now) c.args.asked.now.requests.now c.args.done.now c.requires.at.1 c.requires.geometry c.requires.holds c.requires.done c.place.new.into c.read_words-front.result.front c.read_words-front.result.base here in
    subst (λ (x : Geometry). IsPlanOf (homes_of x) (blocks_in (g.G.Executor.calls.writes c.args.done.now)) c.place.new.into) (sym c.make_room.ensures.keeps.geometry) p

pub returns-clause-holds : goal.returns-clause-holds
returns-clause-holds g c =
    let st = g.P.Port.state in
    let fs = g.P.Port.faults in
    let o = start_of c.args.desk.now in
    let v = view c.read_words-front.new.chair in
    let own = c.make_room.ensures.keeps.queue ∙ c.requires.queue in
    let side = subst (λ (n : ℕ). HoldsSide st fs g.G.Groups.group o n c.make_room.new.side v) own c.make_room.ensures.side in
    let h = commit-side st fs g.G.Groups.group o c.args.asked.now.queue c.args.held.now.cells c.args.side.now c.make_room.new.side v side
    (commit-read st fs g.G.Groups.group o c.args.asked.now.queue c.args.held.now.cells c.args.side.now (view c.args.chair.now) v c.read_words-front.ensures.read.words.held c.read_words-front.ensures.seen c.requires.holds) in
    let p = c.prepare.ensures in
    commit-prepared st fs g.G.Groups.group o c.args.asked.now.queue c.args.held.now.cells c.make_room.new.side c.prepare.new.side v (record { pmr = p.port; stored = p.keeps.stored; done = p.done; kept = p.kept }) h

pub returns-clause-ready : goal.returns-clause-ready
returns-clause-ready g c =
    let st = g.P.Port.state in
    let fs = g.P.Port.faults in
    let o = start_of c.args.desk.now in
    let q = c.args.asked.now.queue in
    let cells = c.args.held.now.cells in
    let old = view c.args.chair.now in
    let v = view c.read_words-front.new.chair in
    let s = c.args.side.now in
    let w = c.prepare.new.side in
    let reads = c.read_words-front.result in
    let plan = c.place.new.into in
    let words = c.read_words-front.ensures.read.words in
    let p = c.prepare.ensures in
    let opening = words.opening ∙ c.requires.at.1 in
    let holds = commit-read st fs g.G.Groups.group o q cells s old v words.held c.read_words-front.ensures.seen c.requires.holds in
    let own = words.session ∙ c.requires.asks.own in
    let called = called-on st fs g.G.Groups.group c.args.asked.now.calls old v words.drawn words.read c.requires.asks.called in
    let on = subst (λ (ws : List Write). IsPlacedOn c.geometry-geometry.result q reads cells ws plan) c.writes.ensures c.in_ok-place.ensures.placed in
    let here = subst (λ (x : Geometry). IsPlacedOn x q reads cells (g.G.Executor.calls.writes c.args.done.now) plan) c.geometry-geometry.ensures on in
    let fit = fits-still st fs g.G.Groups.group c.make_room.new.side w reads.base plan p.port p.keeps.stored c.in_ok-make_room.ensures.fits in
    let none = p.kept ∙ c.in_ok-make_room.ensures.none in
    IfOk-weaker c.prepare.result (IsEntryReady st g.G.Executor.calls (call_of c.args.asked.now) c.args.done.now plan reads w) (IsPrepared st fs g.G.Groups.group g.G.Executor.calls o (call_of c.args.asked.now) c.args.done.now plan old w v)
    (λ ready er. is-prepared st fs g.G.Groups.group g.G.Executor.calls c.done_groups_are_on_maps.ensures c.done_groups_rise.ensures o s.pmr.geometry (call_of c.args.asked.now) c.args.done.now plan reads cells old v s w ready c.entries_tell.ensures c.done_groups_may.ensures opening c.requires.geometry holds c.requires.done c.requires.asks.queue own called c.requires.few c.requires.changes c.read_words-front.ensures.read here fit none er)
    p.ready

pub returns-in_err-make_room-clause-lacks : goal.returns-in_err-make_room-clause-lacks
returns-in_err-make_room-clause-lacks g c =
    let st = g.P.Port.state in
    let fs = g.P.Port.faults in
    let o = start_of c.args.desk.now in
    let q = c.args.asked.now.queue in
    let cells = c.args.held.now.cells in
    let old = view c.args.chair.now in
    let v = view c.read_words-front.new.chair in
    let s = c.args.side.now in
    let w = c.make_room.new.side in
    let reads = c.read_words-front.result in
    let plan = c.place.new.into in
    let words = c.read_words-front.ensures.read.words in
    let opening = words.opening ∙ c.requires.at.1 in
    let own = c.make_room.ensures.keeps.queue ∙ c.requires.queue in
    let side = subst (λ (n : ℕ). HoldsSide st fs g.G.Groups.group o n w v) own c.make_room.ensures.side in
    let holds = commit-side st fs g.G.Groups.group o q cells s w v side (commit-read st fs g.G.Groups.group o q cells s old v words.held c.read_words-front.ensures.seen c.requires.holds) in
    let on = subst (λ (ws : List Write). IsPlacedOn c.geometry-geometry.result q reads cells ws plan) c.writes.ensures c.in_ok-place.ensures.placed in
    let here = subst (λ (x : Geometry). IsPlacedOn x q reads cells (g.G.Executor.calls.writes c.args.done.now) plan) c.geometry-geometry.ensures on in
    let obstacle = c.in_err-make_room.field-0.0 in
    let room = subst (λ (n : ℕ). HasNoRoom st fs g.G.Groups.group n reads.base plan w v obstacle) c.requires.queue c.in_err-make_room.ensures.lacks in
    let whole = c.in_ok-place.ensures.whole in
    let count = ap length c.writes.ensures in
    let few = c.requires.few in
    let most : length plan.logged + length plan.direct ≤ write_limit s.pmr.geometry = omega arith in
    let lacks = lacks-room st fs g.G.Groups.group g.G.Executor.calls c.done_groups_are_on_maps.ensures c.done_groups_rise.ensures c.transactions_are_of_sessions.ensures o s.pmr.geometry (call_of c.args.asked.now) c.args.done.now plan reads cells old v w opening (words.session ∙ c.requires.asks.own) c.requires.geometry c.make_room.ensures.keeps.geometry most holds c.requires.done c.requires.few c.requires.changes c.read_words-front.ensures.read here obstacle room in
    let p = err_from_is_err_and c.from_residual-in_err-make_room.result c.from_residual-in_err-make_room.ensures.1 in
    rw (p.1, p.2) lacks

-- ---- what was done to the side

pub returns-in-Some-clause-drains : goal.returns-in-Some-clause-drains
returns-in-Some-clause-drains g c = left-alone g.P.Port.state g.P.Port.faults c.args.into.now (view c.args.chair.now) c.args.side.now

pub returns-in_err-place-clause-drains : goal.returns-in_err-place-clause-drains
returns-in_err-place-clause-drains g c = left-alone g.P.Port.state g.P.Port.faults c.place.new.into (view c.read_words-front.new.chair) c.args.side.now

pub returns-in_err-make_room-clause-drains : goal.returns-in_err-make_room-clause-drains
returns-in_err-make_room-clause-drains g c = only-drained g.P.Port.state g.P.Port.faults c.read_words-front.result.base c.place.new.into (view c.read_words-front.new.chair) c.args.side.now c.make_room.new.side c.read_words-front.ensures.read.base c.make_room.ensures.drains

pub returns-clause-drains : goal.returns-clause-drains
returns-clause-drains g c =
    let p = c.prepare.ensures in
    made-ready g.P.Port.state g.P.Port.faults c.read_words-front.result.base c.place.new.into (view c.read_words-front.new.chair) c.args.side.now c.make_room.new.side c.prepare.new.side c.read_words-front.ensures.read.base c.make_room.ensures.drains (record { pmr = p.port; stored = p.keeps.stored; done = p.done; kept = p.kept })
