use Rattle.mq_calls.specs.Sessions.{IsReady}
use Rattle.mq_turns.specs.AtDesk.{AtDesk, view}
use Rattle.mq_run.proofs.LinesGrowing.{all_rest}
use Rattle.mq_run.proofs.EndingHearing.{not_finished}
use Rattle.mq_run.proofs.ending.finish.Goals as goal

pub returns-then-not-asked-clause-finished : goal.returns-then-not-asked-clause-finished
returns-then-not-asked-clause-finished g c =
    not_finished g.P.Port.state g.P.Port.faults (λ s. view s.chair) c.args.asked c.args.sessions.now c.requires.some c.if-not-asked.true

pub tell_first-requires-clause-others : goal.tell_first-requires-clause-others
tell_first-requires-clause-others g c =
    all_rest (λ s. AtDesk c.args.files.now.desk s.chair × IsReady c.args.files.now.geometry s.queue s.calls s.held (view s.chair)) c.args.sessions.now c.in-Some.others.now c.in-Some.first.now c.in-Some.ensures.cases.0 c.requires.sessions
