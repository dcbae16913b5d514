use Rattle.std.proofs.Common.{◌≡◌}
use Rattle.mq_notices.specs.Ends.{IsAtWork, pushed_by, served_by_session}
use Rattle.mq_notices.specs.Serving.{ServesMore}
use Rattle.mq_notices.proofs.session.SessionEnd.push.Given as goal

abbrev pub invariant-loop : goal.invariant-loop
invariant-loop g l = record {
  work : IsAtWork l.line l.self;
  pushed : pushed_by l.self ≡ pushed_by l.fn.self;
  ready : g.S.Serve.is_ready l.context l.server;
  served : ServesMore (g.S.Serve.serves l.context) (served_by_session l.fn.self) (served_by_session l.self) l.fn.server l.server;
}
