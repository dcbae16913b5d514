use Rattle.std.proofs.Common.{◌≡◌, ◌++◌, length, drop, ap, map, sym, subst, ◌∙◌, arith}
use Rattle.std.proofs.lemmas.List.{take_at}
use Rattle.mq_calls.specs.Helpers.{IsAtEase}
use Rattle.mq_calls.specs.Sessions.{IsReady}
use Rattle.mq_calls.specs.Group.{file_group}
use Rattle.mq_notices.specs.Ends.{announced, served_by_helper, served_by_session}
use Rattle.mq_notices.specs.Notices.{Merged}
use Rattle.mq_tie.specs.Closed.{HasRun}
use Rattle.mq_turns.specs.AtDesk.{AtDesk, start_of, view}
use Rattle.mq_run.proofs.LinesGrowing.{map_twice}
use Rattle.mq_run.proofs.Parts.{all_parts, if_both, if_map}
use Rattle.mq_run.proofs.RunsTracks.{ends_so}
use Rattle.mq_run.specs.Runs.{EndsSo, Leaves, track}
use Rattle.std.specs.List.{All}
use Rattle.mq_run.proofs.ending.end_scripts.Goals as goal

pub finish-finished-requires-clause-sessions : goal.finish-finished-requires-clause-sessions
finish-finished-requires-clause-sessions g c =
    all_parts (λ p. p.session.runner.user) (λ s. AtDesk c.args.files.desk s.chair × IsReady c.args.files.geometry s.queue s.calls s.held (view s.chair))
    c.args.pairs.items c.deref_mut.result.now (c.deref_mut.ensures.value ∙ c.in_ok-sessions.ensures.sessions) c.requires.sessions

pub end_run-requires-clause-sessions : goal.end_run-requires-clause-sessions
end_run-requires-clause-sessions g c =
    let new = c.finish-finished.new.sessions in
    let old = c.in_ok-sessions.field-0.sessions in
    let same : length new ≡ old.len = omega (arith, c.deref_mut.ensures.len, c.finish-finished.ensures.many) in
    subst (λ ss. All (λ s. AtDesk c.args.files.desk s.chair × IsReady c.args.files.geometry s.queue s.calls s.held (view s.chair)) ss)
    (sym (take_at new (drop (length new) old.items) old.len same)) c.finish-finished.ensures.sessions

pub end_run-requires-clause-helpers : goal.end_run-requires-clause-helpers
end_run-requires-clause-helpers g c =
    all_parts (λ p. p.helper.assistant.helper) (λ h. AtDesk c.args.files.desk h.chair × IsAtEase (view h.chair))
    c.args.pairs.items c.in_ok-sessions.field-0.helpers.items c.in_ok-sessions.ensures.helpers c.requires.helpers

pub returns-clause-ends : goal.returns-clause-ends
returns-clause-ends g c =
    let new = c.finish-finished.new.sessions in
    let parts = c.in_ok-sessions.field-0 in
    let old = parts.sessions in
    let pairs = c.args.pairs.items in
    let same_length : length new ≡ old.len = omega (arith, c.deref_mut.ensures.len, c.finish-finished.ensures.many) in
    if_both c.report_end.result
    (λ e. Leaves c.in_ok-ended.ended (map (λ t. t.items) parts.records.told.items) (map (λ l. l.items) parts.records.reads.items) e)
    (λ e. e.finished ≡ c.finish-finished.result)
    (λ e. EndsSo g.P.Port.state g.P.Port.faults (start_of c.args.files.desk)
    (map (λ p. track p.session.runner.told.items p.session.runner.reads.items (view p.session.runner.user.chair) (announced p.session.announcing) (served_by_session p.session.announcing) (served_by_helper p.helper.listening) (view p.helper.assistant.helper.chair)) pairs) c.args.asked e)
    (λ e leaves same.
    ends_so g.P.Port.state g.P.Port.faults
    (record {
      told = λ p. p.session.runner.told.items;
      reads = λ p. p.session.runner.reads.items;
      look = λ p. view p.session.runner.user.chair;
      sent = λ p. announced p.session.announcing;
      mine = λ p. served_by_session p.session.announcing;
      theirs = λ p. served_by_helper p.helper.listening;
      helper = λ p. view p.helper.assistant.helper.chair;
    })
    (start_of c.args.files.desk) pairs c.args.asked e c.finish-finished.result
    (map (λ s. view s.chair) c.deref_mut.result.now) (map (λ s. view s.chair) new) (map (λ h. view h.chair) parts.helpers.items) c.in_ok-ended.ended
    (map (λ t. t.items) parts.records.told.items) (map (λ l. l.items) parts.records.reads.items)
    (ap (map (λ s. view s.chair)) (c.deref_mut.ensures.value ∙ c.in_ok-sessions.ensures.sessions) ∙ map_twice (λ p. p.session.runner.user) (λ s. view s.chair) pairs)
    (ap (map (λ h. view h.chair)) c.in_ok-sessions.ensures.helpers ∙ map_twice (λ p. p.helper.assistant.helper) (λ h. view h.chair) pairs)
    (ap (map (λ t. t.items)) c.in_ok-sessions.ensures.told ∙ map_twice (λ p. p.session.runner.told) (λ t. t.items) pairs)
    (ap (map (λ l. l.items)) c.in_ok-sessions.ensures.reads ∙ map_twice (λ p. p.session.runner.reads) (λ l. l.items) pairs)
    c.finish-finished.ensures.finished same
    (subst (λ ss. HasRun g.P.Port.state g.P.Port.faults file_group (start_of c.args.files.desk) (map (λ s. view s.chair) ss ++ map (λ h. view h.chair) parts.helpers.items) c.in_ok-ended.ended)
    (take_at new (drop (length new) old.items) old.len same_length) c.in_ok-ended.ensures)
    leaves)
    c.report_end.ensures.leaves c.report_end.ensures.finished

pub returns-clause-served : goal.returns-clause-served
returns-clause-served g c =
    if_map c.report_end.result (λ e. e.served ≡ c.in_ok-sessions.field-0.records.served) (λ e. map (λ v. v.items) e.served.items ≡ map (λ p. announced p.session.announcing) c.args.pairs.items)
    (λ e is. ap (λ s. map (λ v. v.items) s.items) is ∙ c.in_ok-sessions.ensures.served) c.report_end.ensures.served

pub returns-clause-once : goal.returns-clause-once
returns-clause-once g c =
    if_map c.report_end.result (λ e. e.served ≡ c.in_ok-sessions.field-0.records.served)
    (λ _. All (λ p. Merged (served_by_session p.session.announcing) (served_by_helper p.helper.listening) (announced p.session.announcing)) c.args.pairs.items)
    (λ e is. c.in_ok-sessions.ensures.once) c.report_end.ensures.served
