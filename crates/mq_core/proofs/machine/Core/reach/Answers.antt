use Rattle.std.proofs.Common.{◌≡◌, ◌+◌, length, ap, sym, subst, ◌∙◌}
use Rattle.mq_ledger.specs.History.{part_of}
use Rattle.mq_ledger.specs.Plain.{plain}
use Rattle.mq_ledger.specs.State.{IsLawful, front_of}
use Rattle.mq_core.specs.Reach.{ReachBetween, IsReached, is_stored, stored_front}
use Rattle.mq_core.proofs.MachineFacts.{lawful_from}
use Rattle.mq_core.proofs.Reach.{between, least, greatest}
use Rattle.mq_core.proofs.machine.Core.reach.Goals as goal
use Rattle.mq_core.proofs.machine.Core.reach.Goals.{After-front}

pub stored_to-greatest-requires-clause-queues : goal.stored_to-greatest-requires-clause-queues
stored_to-greatest-requires-clause-queues c = λ t ts at. (c.self.invariant.facts.log.each t ts at).0.queue

lawful : (c : After-front) → IsLawful plain c.args.self.now
lawful c = subst (λ s. IsLawful plain s) c.self.view_is (lawful_from plain _ c.self.invariant.facts)

front : (c : After-front) → c.front.result ≡ front_of c.args.self.now
front c = c.front.ensures.is ∙ c.self.invariant.front_is ∙ ap front_of c.self.view_is

stored : (c : After-front) → c.stored_to-greatest.result ≡ stored_front c.args.self.now
stored c =
    let i = c.self.inside in
    c.stored_to-greatest.ensures ∙ ap (λ ports. i.ledger.base + length (part_of (is_stored i.ledger.starts ports) i.ledger.history)) c.deref.ensures.value
    ∙ ap stored_front c.self.view_is

pub returns-clause-least : goal.returns-clause-least
returns-clause-least c = front c

pub returns-clause-greatest : goal.returns-clause-greatest
returns-clause-greatest c = stored c

pub returns-clause-between : goal.returns-clause-between
returns-clause-between c =
    let s = c.args.self.now in
    let at = subst (λ n. ReachBetween plain s n (stored_front s)) (sym (front c)) (between plain s (lawful c)) in
    subst (λ n. ReachBetween plain s c.front.result n) (sym (stored c)) at

pub returns-clause-least_is_reached : goal.returns-clause-least_is_reached
returns-clause-least_is_reached c = subst (λ n. IsReached plain c.args.self.now n) (sym (front c)) (least plain c.args.self.now (lawful c))

pub returns-clause-greatest_is_reached : goal.returns-clause-greatest_is_reached
returns-clause-greatest_is_reached c = subst (λ n. IsReached plain c.args.self.now n) (sym (stored c)) (greatest plain c.args.self.now (lawful c))
