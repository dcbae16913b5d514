use Rattle.mq_turns.specs.AtDesk.{view}
use Rattle.mq_sessions.specs.Calls.{call_of}
use Rattle.mq_sessions.proofs.Attempts.{goes-read, goes-same}
use Rattle.mq_sessions.proofs.SessionsCalled.{keeps-all}
use Rattle.mq_sessions.proofs.attempting.read_undrawn.Goals as goal

pub returns-in-Ok-clause-goes : goal.returns-in-Ok-clause-goes
returns-in-Ok-clause-goes g c = goes-read g.G.Executor.calls (call_of c.args.asked.now) c.args.done.now c.in-Ok.at (view c.args.session.now.chair) (view c.read_group.new.chair) c.in-Ok.ensures.read

pub returns-in-Err-clause-goes : goal.returns-in-Err-clause-goes
returns-in-Err-clause-goes g c = goes-same (view c.args.session.now.chair) (view c.read_group.new.chair) c.in-Err.ensures.same

pub returns-in-Err-clause-missed : goal.returns-in-Err-clause-missed
returns-in-Err-clause-missed g c = keeps-all (view c.args.session.now.chair) (view c.read_group.new.chair) c.in-Err.ensures.same
