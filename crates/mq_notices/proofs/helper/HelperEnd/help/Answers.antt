use Rattle.std.proofs.Common.{◌≡◌, ◌∙◌, refl, ap, false}
use Rattle.std.specs.Prelude.{not}
use Rattle.std.specs.Option.{is_some}
use Rattle.mq_notices.proofs.Helped.{helped-last, helping-on}
use Rattle.mq_notices.proofs.Keeping.{helps}
use Rattle.mq_notices.proofs.Lists.{none-of}
use Rattle.mq_notices.proofs.Served.{none-served, notice-served}
use Rattle.mq_notices.proofs.helper.HelperEnd.help.Goals as goal

pub loop-init : goal.loop-init
loop-init g c = record {
  helping = c.requires.fresh.helping;
  ready = c.requires.ready;
  served = none-served (g.S.Serve.serves c.args.context.now) c.args.self.now.taken.items c.args.server.now c.requires.fresh.none;
}

pub pop_as-requires-clause-rule : goal.pop_as-requires-clause-rule
pop_as-requires-clause-rule g c = (helps _ _ c.loop.invariant.helping.helper, λ items views h at. refl)

pub returns-then-is_none-clause-helped : goal.returns-then-is_none-clause-helped
returns-then-is_none-clause-helped g c =
    let i = c.loop.invariant.helping in
    let notice = c.in-Some-pop_as.notice in
    let same = c.pop_as.ensures.queue in
    let none_is : is_some notice.number ≡ false = c.is_none.ensures ∙ ap not c.if-is_none.true in
    helped-last c.args.line.now c.loop.self _ notice i (same.0 ∙ i.queue.0, same.2 ∙ i.queue.1) c.in-Some-pop_as.ensures.rule c.push_reserved.ensures.items c.push_reserved.ensures.capacity (none-of notice.number none_is)

pub returns-then-is_none-clause-served : goal.returns-then-is_none-clause-served
returns-then-is_none-clause-served g c = notice-served (g.S.Serve.serves c.args.context.now) c.loop.self.taken.items _ c.in-Some-pop_as.notice _ _ _ c.push_reserved.ensures.items c.loop.invariant.served c.serve_number.ensures.served

pub loop-preserved-else-is_none : goal.loop-preserved-else-is_none
loop-preserved-else-is_none g c =
    let i = c.loop.invariant.helping in
    let same = c.pop_as.ensures.queue in
    record {
      helping = helping-on c.args.line.now c.loop.self _ c.in-Some-pop_as.notice i (same.0 ∙ i.queue.0, same.2 ∙ i.queue.1) c.in-Some-pop_as.ensures.rule c.push_reserved.ensures.items c.push_reserved.ensures.capacity;
      ready = c.serve_number.ensures.ready;
      served = notice-served (g.S.Serve.serves c.args.context.now) c.loop.self.taken.items _ c.in-Some-pop_as.notice _ _ _ c.push_reserved.ensures.items c.loop.invariant.served c.serve_number.ensures.served;
    }
