use Rattle.std.proofs.Common.{ap, arith, length}
use Rattle.mq_notices.specs.Ends.{pushed_by}
use Rattle.mq_notices.proofs.Pushed.{announced-all}
use Rattle.mq_notices.proofs.session.SessionEnd.finish.Goals as goal

pub returns-clause-finished : goal.returns-clause-finished
returns-clause-finished g c =
    let all = announced-all (pushed_by c.args.self.now) (pushed_by c.push.new.self) c.requires.open.pushed c.push.ensures.pushed in
    let same = ap length all.0 in
    let few = c.requires.open.few in
    record { work = c.push.ensures.work; pushed = all.1; few = omega arith }

pub returns-clause-announced : goal.returns-clause-announced
returns-clause-announced g c = (announced-all (pushed_by c.args.self.now) (pushed_by c.push.new.self) c.requires.open.pushed c.push.ensures.pushed).0
