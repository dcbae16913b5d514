use Rattle.std.proofs.Common.{◌≡◌, ◌++◌, [], map, ap, ◌∙◌, subst}
use Rattle.mq_calls.specs.Helpers.{IsAtEase}
use Rattle.mq_calls.specs.Sessions.{IsReady}
use Rattle.mq_calls.specs.Group.{file_group}
use Rattle.mq_tie.specs.Closed.{HasRun}
use Rattle.mq_turns.specs.AtDesk.{AtDesk, start_of, view}
use Rattle.mq_run.proofs.Parts.{all_beside, map_beside}
use Rattle.mq_run.proofs.ending.end_run.Goals as goal

pub close_desk-requires-clause-theirs : goal.close_desk-requires-clause-theirs
close_desk-requires-clause-theirs g c =
    all_beside (λ s. s.chair) (λ h. h.chair) (λ ch. AtDesk c.in-Ok.desk ch) (λ ch. (view ch).held ≡ [])
    (λ s. AtDesk c.args.files.desk s.chair × IsReady c.args.files.geometry s.queue s.calls s.held (view s.chair))
    (λ h. AtDesk c.args.files.desk h.chair × IsAtEase (view h.chair))
    c.args.sessions.items c.args.helpers.items c.in-Ok.chairs.items c.in-Ok.ensures.chairs c.in-Ok.ensures.at c.requires.sessions c.requires.helpers (λ s h. h.1.idle) (λ s h. h.1.idle)

pub returns-in-Ok-close_desk : goal.returns-in-Ok-close_desk
returns-in-Ok-close_desk g c =
    let views : map (λ ch. view ch) c.in-Ok.chairs.items ≡ map (λ s. view s.chair) c.args.sessions.items ++ map (λ h. view h.chair) c.args.helpers.items =
    ap (map (λ ch. view ch)) c.in-Ok.ensures.chairs ∙ map_beside (λ s. s.chair) (λ h. h.chair) (λ ch. view ch) c.args.sessions.items c.args.helpers.items in
    subst (λ vs. HasRun g.P.Port.state g.P.Port.faults file_group (start_of c.args.files.desk) vs c.in-Ok-close_desk.ended) views
    (subst (λ d. HasRun g.P.Port.state g.P.Port.faults file_group (start_of d) (map (λ ch. view ch) c.in-Ok.chairs.items) c.in-Ok-close_desk.ended) c.in-Ok.ensures.desk c.in-Ok-close_desk.ensures.run)
