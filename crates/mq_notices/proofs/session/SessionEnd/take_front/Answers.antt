use Rattle.std.proofs.Common.{refl}
use Rattle.mq_notices.specs.Ends.{served_by_session}
use Rattle.mq_notices.proofs.Keeping.{takes}
use Rattle.mq_notices.proofs.Served.{none-more, notice-more}
use Rattle.mq_notices.proofs.session.SessionEnd.take_front.Goals as goal

pub pop_as-requires-clause-rule : goal.pop_as-requires-clause-rule
pop_as-requires-clause-rule g c = (takes _ _ c.requires.work.session, λ items views h at. refl)

pub returns-in-Some-clause-served : goal.returns-in-Some-clause-served
returns-in-Some-clause-served g c = notice-more (g.S.Serve.serves c.args.context.now) c.args.self.now.taken.items _ c.in-Some.notice _ _ c.push_reserved.ensures.items c.serve_number.ensures.served

pub returns-in_default-clause-served : goal.returns-in_default-clause-served
returns-in_default-clause-served g c = none-more (g.S.Serve.serves c.args.context.now) (served_by_session c.args.self.now) c.args.server.now
