use Rattle.std.proofs.Common.{◌≡◌, ◌∙◌, ◌++◌, ◌∷◌, [], rules, subst, sym}
use Rattle.std.specs.List.{All}
use Rattle.mq_calls.proofs.ReversedLists.{back-more}
use Rattle.mq_run.proofs.Parts.{all_pushed}
use Rattle.mq_run.specs.Seating.{kit_of}
use Rattle.mq_run.proofs.opening.seat.Goals as goal

pub loop-user-preserved : goal.loop-user-preserved
loop-user-preserved g c =
    let i = c.loop-user.invariant in
    let made = c.push_reserved.new.self.items in
    let pairs = c.loop-user.pairs.items in
    let pushed = c.push_reserved.ensures.items in
    let user : c.loop-user.sessions.items ≡ c.pop.new.self.items ++ c.in-Some.user ∷ [] = c.in-Some.ensures.items in
    let helper : c.loop-user.helpers.items ≡ c.pop-in-Some.new.self.items ++ c.in-Some-pop.helper ∷ [] = c.in-Some-pop.ensures.items in
    let kit : c.loop-user.kits.items ≡ c.pop-in-Some-2.new.self.items ++ c.in-Some-pop-2.kit ∷ [] = c.in-Some-pop-2.ensures.items in
    record {
      left = sym (back-more (λ p. p.session.runner.user) c.pop.new.self.items c.loop-user.sessions.items made pairs _ pushed user) ∙ i.left;
      helpers_left = sym (back-more (λ p. p.helper.assistant.helper) c.pop-in-Some.new.self.items c.loop-user.helpers.items made pairs _ pushed helper) ∙ i.helpers_left;
      kits_left = sym (back-more (λ p. kit_of p.session.runner.told p.session.runner.reads p.line p.session.announcing p.helper.listening) c.pop-in-Some-2.new.self.items c.loop-user.kits.items made pairs _ pushed kit) ∙ i.kits_left;
      queues = subst (λ ps. All (λ p. p.helper.assistant.queue ≡ p.session.runner.user.queue) ps) (sym pushed)
          (all_pushed (λ p. p.helper.assistant.queue ≡ p.session.runner.user.queue) pairs _ i.queues c.queue-queue.ensures);
      helpers = search rules;
      kits = search rules;
      room = search rules;
    }
