use Rattle.std.proofs.Common.{refl, ap, sym, length, rules, ◌∙◌}
use Rattle.mq_notices.specs.Ends.{served_by_session}
use Rattle.mq_notices.proofs.Keeping.{pushes}
use Rattle.mq_notices.proofs.Served.{more-on, none-more}
use Rattle.mq_notices.proofs.session.SessionEnd.push.Goals as goal

pub loop-init : goal.loop-init
loop-init g c = record {
  work = c.requires.work;
  pushed = refl;
  ready = c.requires.ready;
  served = none-more (g.S.Serve.serves c.args.context.now) (served_by_session c.args.self.now) c.args.server.now;
}

pub push_as-requires-clause-rule : goal.push_as-requires-clause-rule
push_as-requires-clause-rule g c =
    let i = c.loop.invariant in
    (pushes _ _ _ _ i.work.session (c.requires.next ∙ sym (ap length i.pushed)), λ items views h at. refl)

pub loop-preserved : goal.loop-preserved
loop-preserved g c =
    let i = c.loop.invariant in
    let took = c.take_front.ensures in
    record {
      work = took.work;
      pushed = search rules;
      ready = took.ready;
      served = more-on (g.S.Serve.serves c.args.context.now) _ _ _ _ _ _ i.served took.served;
    }
