use Rattle.std.proofs.Common.{◌≡◌, ◌∙◌, [], append-nil, refl, sym}
use Rattle.mq_notices.specs.Serving.{begins}
use Rattle.mq_turns.specs.AtDesk.{view}
use Rattle.mq_run.proofs.ServedNotices.{chair-served, same-served}
use Rattle.mq_run.proofs.playing.announce.Goals as goal

pub returns-in-Some-clause-keeps : goal.returns-in-Some-clause-keeps
returns-in-Some-clause-keeps g c =
    let more = c.announce.ensures.served in (
      same-served _ (λ r. r.told) (λ n r s step. step.0) c.args.runner.now more.more c.announce.new.server more.serves,
      same-served _ (λ r. r.reads) (λ n r s step. step.1) c.args.runner.now more.more c.announce.new.server more.serves,
    )

pub returns-in-Some-clause-user : goal.returns-in-Some-clause-user
returns-in-Some-clause-user g c =
    let more = c.announce.ensures.served in (
      same-served _ (λ r. r.user.queue) (λ n r s step. step.2) c.args.runner.now more.more c.announce.new.server more.serves,
      same-served _ (λ r. r.user.calls) (λ n r s step. step.3) c.args.runner.now more.more c.announce.new.server more.serves,
    )

pub returns-in-Some-clause-served : goal.returns-in-Some-clause-served
returns-in-Some-clause-served g c =
    let more = c.announce.ensures.served in (
      more.more,
      more.added,
      chair-served g.P.Port.state g.P.Port.faults _ (λ r. view r.user.chair) (λ r. r.user.queue) (λ n r s step. (step.2, step.4)) c.args.runner.now more.more c.announce.new.server more.serves,
    )

pub returns-in_default-clause-served : goal.returns-in_default-clause-served
returns-in_default-clause-served g c = ([], sym (append-nil _), begins)
