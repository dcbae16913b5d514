use Rattle.std.proofs.Common.{◌∙◌, ℕ, ◌≤◌, length, sym, subst, ◌<◌, List, ap}
use Rattle.mq_blocks.specs.Geometry.{write_limit}
use Rattle.mq_blocks.specs.declared.geometry.Geometry.{Geometry}
use Rattle.mq_journal.specs.Numbers.{Seat}
use Rattle.mq_turns.specs.AtDesk.{chairs_of, start_of, view}
use Rattle.mq_turns.specs.Desk.{allotment, slot_of}
use Rattle.mq_sessions.specs.Drawing.{IsCommitted}
use Rattle.mq_turns.specs.declared.rule.Report.TheVariants.{Off, Sent}
use Rattle.mq_turns.specs.declared.turn.Turn.TheVariants.{Side}
use Rattle.mq_sessions.specs.Calls.{call_of}
use Rattle.mq_sessions.specs.Committing.{HoldsCommit, IsObstacle, IsMissed, OnlyReports, ShowsObstacle, reports_for}
use Rattle.mq_journal.specs.Machine.{journal}
use Rattle.mq_sessions.specs.declared.committing.Miss.{Miss}
use Rattle.mq_sessions.proofs.Attempts.{committed-of, cut-of, holds-more, obstacle-shown, missed-for, goes-drawn, goes-holds, goes-looked, goes-reports, goes-then, goes-words}
use Rattle.mq_sessions.proofs.CommittingInHand.{commit-looked, commit-taken, obstacle-looked}
use Rattle.mq_sessions.proofs.PagesBeside.{side-above}
use Rattle.mq_sessions.proofs.drawing.commit.Goals as goal

pub take_side-side-requires-clause-above : goal.take_side-side-requires-clause-above
take_side-side-requires-clause-above g c =
    side-above (journal g.P.Port.state g.P.Port.faults g.G.Groups.group) (start_of c.args.desk.now) c.args.asked.now.queue c.args.held.now.cells (view c.args.chair.now) c.requires.holds c.requires.seen

pub make_ready-requires-clause-holds : goal.make_ready-requires-clause-holds
make_ready-requires-clause-holds g c =
    let t = c.take_side-side.ensures.took in
    commit-taken g.P.Port.state g.P.Port.faults g.G.Groups.group (start_of c.args.desk.now) c.args.asked.now.queue c.args.held.now.cells c.take_side-side.result (view c.args.chair.now) (view c.take_side-side.new.chair) t.known c.requires.holds t.is t.sees c.take_side-side.ensures.side

pub make_ready-requires-clause-done : goal.make_ready-requires-clause-done
make_ready-requires-clause-done g c =
    subst (λ (x : Geometry). g.G.Executor.calls.on_cells x c.args.asked.now.queue c.args.held.now.cells c.args.asked.now.requests.now c.args.done) (sym (c.take_side-side.ensures.geometry ∙ c.requires.geometry)) c.requires.done

pub make_ready-requires-clause-few : goal.make_ready-requires-clause-few
make_ready-requires-clause-few g c =
    subst (λ (x : Geometry). length (g.G.Executor.calls.writes c.args.done) ≤ write_limit x) (sym (c.take_side-side.ensures.geometry ∙ c.requires.geometry)) c.requires.few

pub draw_group-requires-clause-done : goal.draw_group-requires-clause-done
draw_group-requires-clause-done g c =
    subst (λ (x : Geometry). g.G.Executor.calls.on_cells x c.args.asked.now.queue c.args.held.now.cells c.args.asked.now.requests.now c.args.done) (sym (c.in-Ok.ensures.keeps.geometry ∙ c.take_side-side.ensures.geometry ∙ c.requires.geometry)) c.requires.done

pub returns-in-Ok-draw_group-clause-committed : goal.returns-in-Ok-draw_group-clause-committed
returns-in-Ok-draw_group-clause-committed g c =
    let o = start_of c.args.desk.now in
    let t = c.take_side-side.ensures.took in
    let old = view c.args.chair.now in
    let taken = view c.take_side-side.new.chair in
    let p = c.in-Ok.ensures.ready in
    let made = committed-of g.G.Groups.group g.G.Executor.calls c.args.geometry (call_of c.args.asked.now) c.args.done c.in-Ok.ready.entry c.in-Ok-draw_group.drawn.0 old taken (view c.make_ready.new.chair) (view c.draw_group.new.chair) (holds-more (slot_of o (Side c.args.asked.now.queue)) t.known old taken t.is) c.in-Ok.ensures.words p.answers (c.entries_tell.ensures (call_of c.args.asked.now) c.args.done c.in-Ok.ready.entry p.is) c.requires.few c.in-Ok-draw_group.ensures.sent in
    subst (λ (rs : List _). IsCommitted g.G.Executor.calls c.args.geometry (call_of c.args.asked.now) rs c.in-Ok-draw_group.drawn.0 old (view c.draw_group.new.chair)) (sym c.in-Ok-draw_group.ensures.replies) made

pub returns-in-Err-draw_group-clause-missed : goal.returns-in-Err-draw_group-clause-missed
returns-in-Err-draw_group-clause-missed g c =
    let o = start_of c.args.desk.now in
    let t = c.take_side-side.ensures.took in
    let old = view c.args.chair.now in
    let taken = view c.take_side-side.new.chair in
    let p = c.in-Ok.ensures.ready in
    let was = c.in-Err-draw_group.ensures.cut in
    cut-of g.P.Port.state g.P.Port.faults g.G.Groups.group g.G.Executor.calls c.args.geometry (call_of c.args.asked.now) c.args.done c.in-Ok.ready.entry c.in-Err-draw_group.at old taken (view c.make_ready.new.chair) (view c.draw_group.new.chair) (holds-more (slot_of o (Side c.args.asked.now.queue)) t.known old taken t.is) c.in-Ok.ensures.words p.answers (c.entries_tell.ensures (call_of c.args.asked.now) c.args.done c.in-Ok.ready.entry p.is) c.requires.few was.0 was.1

pub give_up-requires-clause-holds : goal.give_up-requires-clause-holds
give_up-requires-clause-holds g c =
    let st = g.P.Port.state in
    let fs = g.P.Port.faults in
    let o = start_of c.args.desk.now in
    let s = c.make_ready.new.side in
    let cells = c.args.held.now.cells in
    let w = view c.look_only.new.chair in
    let looked = c.look_only.ensures.looked in
    let same = c.in-Err.ensures.keeps.queue ∙ c.take_side-side.ensures.queue in
    subst (λ (q : ℕ). HoldsCommit st fs g.G.Groups.group o q cells s w) (sym same)
    (commit-looked st fs g.G.Groups.group o c.args.asked.now.queue cells s (view c.make_ready.new.chair) w looked.0 looked.1 looked.2 c.in-Err.ensures.holds)

pub give_up-requires-clause-shows : goal.give_up-requires-clause-shows
give_up-requires-clause-shows g c =
    let st = g.P.Port.state in
    let fs = g.P.Port.faults in
    let s = c.make_ready.new.side in
    let v = view c.make_ready.new.chair in
    let w = view c.look_only.new.chair in
    let looked = c.look_only.ensures.looked in
    let same = c.in-Err.ensures.keeps.queue ∙ c.take_side-side.ensures.queue in
    subst (λ (q : ℕ). ShowsObstacle st fs g.G.Groups.group q s w c.in-Err.obstacle) (sym same)
    (obstacle-looked st fs g.G.Groups.group c.args.asked.now.queue s v w looked.0 c.in-Err.obstacle looked.1 looked.2
    (obstacle-shown st fs g.G.Groups.group g.G.Executor.calls c.take_side-side.result.pmr.geometry (call_of c.args.asked.now) (view c.take_side-side.new.chair) s v c.in-Err.obstacle c.in-Err.ensures.lacks))

pub returns-in-Err-clause-missed : goal.returns-in-Err-clause-missed
returns-in-Err-clause-missed g c =
    let st = g.P.Port.state in
    let fs = g.P.Port.faults in
    let o = start_of c.args.desk.now in
    let t = c.take_side-side.ensures.took in
    let old = view c.args.chair.now in
    let taken = view c.take_side-side.new.chair in
    let v = view c.make_ready.new.chair in
    let w = view c.look_only.new.chair in
    let looked = c.look_only.ensures.looked in
    let same = c.in-Err.ensures.keeps.queue ∙ c.take_side-side.ensures.queue in
    let reports = subst (λ (q : ℕ). OnlyReports (reports_for q c.in-Err.obstacle w.reading.charged) w (view c.give_up.new.chair)) same c.give_up.ensures.reports in
    let shape = c.take_side-side.ensures.geometry ∙ c.requires.geometry in
    let lacks = subst (λ (x : Geometry). IsObstacle st fs g.G.Groups.group g.G.Executor.calls x (call_of c.args.asked.now) taken c.make_ready.new.side v c.in-Err.obstacle) shape c.in-Err.ensures.lacks in
    let r = missed-for st fs g.G.Groups.group g.G.Executor.calls c.args.geometry (call_of c.args.asked.now) c.make_ready.new.side looked.0 old taken v w (view c.give_up.new.chair) c.in-Err.obstacle (holds-more (slot_of o (Side c.args.asked.now.queue)) t.known old taken t.is) c.in-Err.ensures.words lacks looked.2 looked.1 reports in
    subst (λ (m : Miss). IsMissed st fs g.G.Groups.group g.G.Executor.calls c.args.geometry (call_of c.args.asked.now) old (view c.give_up.new.chair) m) (sym c.miss_of.ensures) r

pub returns-in-Ok-draw_group-clause-goes : goal.returns-in-Ok-draw_group-clause-goes
returns-in-Ok-draw_group-clause-goes g c =
    let t = c.take_side-side.ensures.took in
    let old = view c.args.chair.now in
    let taken = view c.take_side-side.new.chair in
    let v = view c.make_ready.new.chair in
    let first = goes-holds old taken (holds-more (slot_of (start_of c.args.desk.now) (Side c.args.asked.now.queue)) t.known old taken t.is) in
    goes-then old v (view c.draw_group.new.chair) (goes-then old taken v first (goes-words taken v c.in-Ok.ensures.words)) (goes-drawn c.in-Ok.ready.entry c.args.asked.now.queue c.in-Ok-draw_group.drawn.0 (Sent c.in-Ok-draw_group.drawn.0) v (view c.draw_group.new.chair) c.in-Ok-draw_group.ensures.sent)

pub returns-in-Err-draw_group-clause-goes : goal.returns-in-Err-draw_group-clause-goes
returns-in-Err-draw_group-clause-goes g c =
    let t = c.take_side-side.ensures.took in
    let old = view c.args.chair.now in
    let taken = view c.take_side-side.new.chair in
    let v = view c.make_ready.new.chair in
    let first = goes-holds old taken (holds-more (slot_of (start_of c.args.desk.now) (Side c.args.asked.now.queue)) t.known old taken t.is) in
    goes-then old v (view c.draw_group.new.chair) (goes-then old taken v first (goes-words taken v c.in-Ok.ensures.words)) (goes-drawn c.in-Ok.ready.entry c.args.asked.now.queue c.in-Err-draw_group.at Off v (view c.draw_group.new.chair) c.in-Err-draw_group.ensures.cut.0)

pub returns-in-Err-clause-goes : goal.returns-in-Err-clause-goes
returns-in-Err-clause-goes g c =
    let t = c.take_side-side.ensures.took in
    let old = view c.args.chair.now in
    let taken = view c.take_side-side.new.chair in
    let v = view c.make_ready.new.chair in
    let w = view c.look_only.new.chair in
    let looked = c.look_only.ensures.looked in
    let first = goes-holds old taken (holds-more (slot_of (start_of c.args.desk.now) (Side c.args.asked.now.queue)) t.known old taken t.is) in
    let second = goes-looked looked.0 v w looked.1 looked.2.seen in
    goes-then old w (view c.give_up.new.chair) (goes-then old v w (goes-then old taken v first (goes-words taken v c.in-Err.ensures.words)) second) (goes-reports (reports_for c.make_ready.new.side.pmr.queue c.in-Err.obstacle w.reading.charged) w (view c.give_up.new.chair) c.give_up.ensures.reports)

pub draw_group-requires-clause-room : goal.draw_group-requires-clause-room
draw_group-requires-clause-room g c =
    let t = c.take_side-side.ensures.took in
    let taken = ap (λ (x : Seat _ _ _). x.drawn) t.is in
    subst (λ (ds : List _). length ds < allotment (chairs_of c.args.desk.now)) (sym (c.in-Ok.ensures.words.drawn ∙ taken)) c.requires.room
