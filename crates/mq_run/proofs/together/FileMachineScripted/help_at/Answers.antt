use Rattle.std.proofs.Common.{◌≡◌, ap}
use Rattle.mq_notices.specs.Ends.{served_by_helper}
use Rattle.mq_turns.specs.AtDesk.{view}
use Rattle.mq_run.proofs.ServedNotices.{chair-served}
use Rattle.mq_run.proofs.together.FileMachineScripted.help_at.Goals as goal

pub returns-clause-served : goal.returns-clause-served
returns-clause-served g c =
    chair-served g.P.Port.state g.P.Port.faults _ (λ a. view a.helper.chair) (λ a. a.queue) (λ n r s step. step) c.args.half.now.assistant (served_by_helper c.help.new.self) c.help.new.server c.help.ensures.served
