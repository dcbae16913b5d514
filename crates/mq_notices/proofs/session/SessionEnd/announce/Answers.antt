use Rattle.std.proofs.Common.{ap, arith, length, length-append, [], ◌∷◌, ◌∙◌}
use Rattle.mq_notices.specs.Ends.{announced, pushed_by}
use Rattle.mq_notices.proofs.Pushed.{announced-more}
use Rattle.mq_notices.proofs.session.SessionEnd.announce.Goals as goal

pub returns-clause-open : goal.returns-clause-open
returns-clause-open g c =
    let more = announced-more (pushed_by c.args.self.now) (pushed_by c.push.new.self) c.requires.open.pushed c.args.number c.push.ensures.pushed in
    let longer = ap length more.0 ∙ length-append (announced c.args.self.now) (c.args.number ∷ []) in
    let few = c.requires.few in
    record { work = c.push.ensures.work; pushed = more.1; few = omega arith }

pub returns-clause-announced : goal.returns-clause-announced
returns-clause-announced g c = (announced-more (pushed_by c.args.self.now) (pushed_by c.push.new.self) c.requires.open.pushed c.args.number c.push.ensures.pushed).0
