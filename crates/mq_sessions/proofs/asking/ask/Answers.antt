use Rattle.std.proofs.Common.{◌∙◌, List, inl, refl, subst, sym}
use Rattle.std.proofs.lemmas.Result.{MatchResult-from_err}
use Rattle.std.specs.Prelude.{false, ⊤}
use Rattle.mq_turns.specs.AtDesk.{start_of, view}
use Rattle.mq_sessions.specs.Acts.{KeepsAll}
use Rattle.mq_sessions.specs.Attempts.{ReadsOnly}
use Rattle.mq_sessions.specs.Calls.{call_by}
use Rattle.mq_sessions.proofs.Attempts.{goes-at-once, goes-read, goes-same, goes-then}
use Rattle.mq_sessions.proofs.AttemptsComposing.{acts-same, only-read}
use Rattle.mq_sessions.proofs.ExecutorsNow.{possible-now}
use Rattle.mq_sessions.proofs.SessionsCalled.{keeps-all, keeps-at-once, ready-again, ready-read}
use Rattle.mq_sessions.proofs.WantedFurther.{same-then}
use Rattle.mq_sessions.proofs.asking.ask.Goals as goal

-- ---- as many calls were made as may be

pub returns-then-session-ge-CALL_LIMIT-clause-goes : goal.returns-then-session-ge-CALL_LIMIT-clause-goes
returns-then-session-ge-CALL_LIMIT-clause-goes g c = goes-at-once (view c.args.session.now.chair)

pub returns-then-session-ge-CALL_LIMIT-clause-refused : goal.returns-then-session-ge-CALL_LIMIT-clause-refused
returns-then-session-ge-CALL_LIMIT-clause-refused g c = keeps-at-once (view c.args.session.now.chair)

-- ---- the group is run

pub read_group-requires-clause-undrawn : goal.read_group-requires-clause-undrawn
read_group-requires-clause-undrawn g c =
    let ran = c.in_ok-done.ensures in
    let possible = possible-now g.P.Port.state g.P.Port.faults g.G.Groups.group c.args.geometry (start_of c.args.desk.now) c.run_held.new.held.cells (view c.run_held.new.chair) c.run_held.ensures.at.1 c.requires.geometry ran.pages.pages ran.seen in
    inl (c.requires.reads c.run_held.new.held.cells c.in_ok-done.done possible ran.done)

-- ---- it is refused

pub returns-in_err-done-clause-ready : goal.returns-in_err-done-clause-ready
returns-in_err-done-clause-ready g c =
    let s = c.args.session.now in
    let idle = c.in_err-done.ensures.idle in
    ready-again g.G.Groups.group c.args.geometry s.queue s.calls s.held c.run_held.new.held (view s.chair) (view c.run_held.new.chair) c.requires.ready c.run_held.ensures.same idle.0 idle.1 c.run_held.ensures.room

pub returns-in_err-done-clause-refused : goal.returns-in_err-done-clause-refused
returns-in_err-done-clause-refused g c =
    let v = view c.args.session.now.chair in
    let w = view c.run_held.new.chair in
    MatchResult-from_err c.from_residual.result (λ x. ⊤) (λ e. KeepsAll v w) c.from_residual.ensures.0 (λ e. keeps-all v w c.run_held.ensures.same)

pub returns-in_err-done-clause-goes : goal.returns-in_err-done-clause-goes
returns-in_err-done-clause-goes g c = goes-same (view c.args.session.now.chair) (view c.run_held.new.chair) c.run_held.ensures.same

pub returns-in_err-at-clause-ready : goal.returns-in_err-at-clause-ready
returns-in_err-at-clause-ready g c =
    let left = c.in_err-at.ensures in
    let s = c.args.session.now in
    let v = view s.chair in
    let w = view c.read_group.new.chair in
    let same = same-then v (view c.run_held.new.chair) w c.run_held.ensures.same left.same in
    ready-again g.G.Groups.group c.args.geometry s.queue s.calls s.held c.read_group.new.held v w c.requires.ready same left.left c.read_group.ensures.cells (c.read_group.ensures.room ∙ c.run_held.ensures.room)

pub returns-in_err-at-clause-goes : goal.returns-in_err-at-clause-goes
returns-in_err-at-clause-goes g c =
    let v = view c.args.session.now.chair in
    let w = view c.read_group.new.chair in
    goes-same v w (same-then v (view c.run_held.new.chair) w c.run_held.ensures.same c.in_err-at.ensures.same)

pub returns-in_err-at-clause-refused : goal.returns-in_err-at-clause-refused
returns-in_err-at-clause-refused g c =
    let v = view c.args.session.now.chair in
    let w = view c.read_group.new.chair in
    let same = same-then v (view c.run_held.new.chair) w c.run_held.ensures.same c.in_err-at.ensures.same in
    MatchResult-from_err c.from_residual-in_err-at.result (λ x. ⊤) (λ e. KeepsAll v w) c.from_residual-in_err-at.ensures.0 (λ e. keeps-all v w same)

-- ---- it is read

pub returns-clause-ready : goal.returns-clause-ready
returns-clause-ready g c =
    let s = c.args.session.now in
    ready-read g.G.Groups.group g.G.Executor.calls c.args.geometry (call_by s.queue s.calls false c.args.requests.now) c.in_ok-done.done c.in_ok-at.at s.held c.read_group.new.held (view s.chair) (view c.run_held.new.chair) (view c.read_group.new.chair) c.entries_tell.ensures c.requires.ready c.run_held.ensures.same c.in_ok-at.ensures.read c.read_group.ensures.cells (c.read_group.ensures.room ∙ c.run_held.ensures.room)

pub returns-clause-goes : goal.returns-clause-goes
returns-clause-goes g c =
    let s = c.args.session.now in
    let v = view s.chair in
    let m = view c.run_held.new.chair in
    let w = view c.read_group.new.chair in
    goes-then v m w (goes-same v m c.run_held.ensures.same) (goes-read g.G.Executor.calls (call_by s.queue s.calls false c.args.requests.now) c.in_ok-done.done c.in_ok-at.at m w c.in_ok-at.ensures.read)

pub returns-clause-answered : goal.returns-clause-answered
returns-clause-answered g c =
    let cs = g.G.Executor.calls in
    let s = c.args.session.now in
    let call = call_by s.queue s.calls false c.args.requests.now in
    let v = view s.chair in
    let m = view c.run_held.new.chair in
    let w = view c.read_group.new.chair in
    let ran = c.in_ok-done.ensures in
    let done = c.in_ok-done.done in
    let possible = possible-now g.P.Port.state g.P.Port.faults g.G.Groups.group c.args.geometry (start_of c.args.desk.now) c.run_held.new.held.cells m c.run_held.ensures.at.1 c.requires.geometry ran.pages.pages ran.seen in
    let none = c.requires.reads c.run_held.new.held.cells done possible ran.done in
    let read = only-read g.G.Groups.group cs call done c.in_ok-at.at m w c.entries_tell.ensures c.in_ok-at.ensures.read none.0 none.1 in
    let all = acts-same cs c.args.geometry call c.in_ok-at.at false (cs.replies done) v m w c.run_held.ensures.same read in
    (refl, subst (λ (rs : List _). ReadsOnly cs call rs c.in_ok-at.at v w) (sym c.parts-replies.ensures.replies) all)
