use Rattle.mq_notices.specs.Ends.{IsHelping, served_by_helper}
use Rattle.mq_notices.specs.Serving.{Serves}
use Rattle.mq_notices.proofs.helper.HelperEnd.help.Given as goal

abbrev pub invariant-loop : goal.invariant-loop
invariant-loop g l = record {
  helping : IsHelping l.line l.self;
  ready : g.S.Serve.is_ready l.context l.server;
  served : Serves (g.S.Serve.serves l.context) l.fn.server (served_by_helper l.self) l.server;
}
