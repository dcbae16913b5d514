use Rattle.std.proofs.Common.{◌+◌, sym, ap, ◌∙◌}
use Rattle.mq_replica.specs.Feeding.{last_of}
use Rattle.mq_replica.proofs.FeederSteps.{pushed}
use Rattle.mq_replica.proofs.feeder.Feeder.push.Goals as goal

pub invariant_of-self : goal.invariant_of-self
invariant_of-self c = record { numbers = pushed c.self.inside.acknowledged c.self.inside.waiting.items c.push_back.new.self.items c.args.update _ c.push_back.ensures.items (c.requires.next ∙ ap (λ f. last_of f + 1) (sym c.self.view_is)) c.self.invariant.numbers }
