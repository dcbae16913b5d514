use Rattle.std.proofs.Common.{◌≡◌, ◌∙◌, ℕ, List, [], ap, refl, subst, sym}
use Rattle.mq_report.specs.declared.line.Told.{Told}
use Rattle.mq_report.specs.declared.line.Line.{Line}
use Rattle.mq_turns.specs.AtDesk.{view}
use Rattle.mq_notices.specs.Notices.{with_number}
use Rattle.mq_run.specs.Playing.{AreLines, IsTold, sent_by, told_of}
use Rattle.mq_run.proofs.PlayingGroups.{sent-is, told-by}
use Rattle.mq_run.proofs.playing.ask_next.Goals as goal

pub returns-clause-read : goal.returns-clause-read
returns-clause-read g c =
    let r = c.args.runner.now in
    let q = r.user.queue in
    let k = c.args.index in
    let asks = c.ask_group-answer.ensures in
    let answer = c.ask_group-answer.result in
    let group = c.args.group.now in
    let read = c.add_line.ensures.read in
    let own = c.queue-session.ensures in
    let are : AreLines q k group.end answer read.0 = subst (λ (x : ℕ). AreLines x k group.end answer read.0) own read.1 in
    let told : c.tell-told.result ≡ told_of q k group.end answer = c.tell-told.ensures ∙ ap (λ (x : ℕ). told_of x k group.end answer) own in
    let v = view r.user.chair in
    let w = view c.ask_group-answer.new.user.chair in
    let tells = told-by g.P.Port.state g.P.Port.faults c.args.files.now.geometry q k group v w q r.user.calls answer read.0 refl c.requires.calls asks.done asks.refused asks.changes asks.goes are in (
      read.0,
      subst (λ (t : Told). IsTold g.P.Port.state g.P.Port.faults c.args.files.now.geometry q k group t read.0 v w) (sym told) tells,
      read.2,
      ap (λ o. with_number o []) c.sent_number-sent.ensures ∙ (sent-is q k group.end answer read.0 are ∙ ap (λ (t : Told). sent_by t.answer read.0) (sym told)),
    )
