use Rattle.std.proofs.Common.{◌<◌, ◌∙◌, refl, rules}
use Rattle.mq_replica.proofs.FeederSteps.{heard_popped}
use Rattle.mq_replica.proofs.feeder.Feeder.heard.Goals as goal

pub loop-reached-preserved : goal.loop-reached-preserved
loop-reached-preserved c =
    let low : c.loop-reached.self-inside.acknowledged < c.args.reached = search rules in
    let step = heard_popped c.args.reached c.loop-reached.self-inside.acknowledged c.loop-reached.self-inside.waiting.items c.pop_front.new.self.items c.in-Some.update c.in-Some.ensures.items low c.loop-reached.invariant.feeder.numbers in
    record { feeder = record { numbers = step.0 }; same = refl; on = step.1 ∙ c.loop-reached.invariant.on }
