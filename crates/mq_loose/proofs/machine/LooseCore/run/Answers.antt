use Rattle.std.proofs.Common.{◌≡◌, ◌+◌, [], ◌∷◌, sym, subst, arith}
use Rattle.std.proofs.lemmas.List.{nil_from_length}
use Rattle.std.specs.Vec.Iter.{into_iter_items}
use Rattle.mq_ledger.specs.Plain.{plain}
use Rattle.mq_loose.specs.Runs.{IsRefusal}
use Rattle.mq_loose.proofs.Runs.{always_safe}
use Rattle.mq_loose.proofs.Machines.{loose_machine}
use Rattle.mq_core.proofs.MachineRunning.{Leads, leads_start, leads_next, refused_there}
use Rattle.mq_loose.proofs.machine.LooseCore.run.Goals as goal
use Rattle.mq_loose.proofs.machine.LooseCore.run.Goals.{In-Some}

pub loop-event-init : goal.loop-event-init
loop-event-init c = leads_start loose_machine c.args.events.items (into_iter_items c.into_iter-event-iterator.result) c.args.start c.into_iter-event-iterator.ensures.into_iter_gives.0

-- the event that is next
next : (c : In-Some) → Leads loose_machine c.args.events.items c.args.start (c.in-Some.event ∷ into_iter_items c.next.new.self) c.loop-event.core c.loop-event.index
next c = subst (λ vs. Leads loose_machine c.args.events.items c.args.start vs c.loop-event.core c.loop-event.index) c.in-Some.ensures.steps.0 c.loop-event.invariant

pub returns-in-Err-clause-refused : goal.returns-in-Err-clause-refused
returns-in-Err-clause-refused c =
    subst (λ r. IsRefusal plain c.args.events.items c.args.start r) (sym c.at.ensures)
    (refused_there loose_machine c.args.events.items c.args.start c.in-Some.event (into_iter_items c.next.new.self) c.loop-event.core c.apply.new.self c.loop-event.index c.in-Err.refusal (next (goal.at.returns-in-Err-clause-refused c).In-Some) c.in-Err.ensures)

pub overflow_add-index : goal.overflow_add-index
overflow_add-index c =
    let l = next (goal.at.overflow_add-index c).In-Some in
    omega (arith, l.index_is, c.args.events.ok.0, c.args.events.small)

pub loop-event-preserved : goal.loop-event-preserved
loop-event-preserved c =
    let l = next (goal.at.loop-event-preserved c).In-Some in
    subst (λ s. Leads loose_machine c.args.events.items c.args.start (into_iter_items c.next.new.self) s (c.loop-event.index + 1)) (sym c.in_default.ensures.1)
    (leads_next loose_machine c.args.events.items c.args.start c.in-Some.event (into_iter_items c.next.new.self) c.loop-event.core c.loop-event.index l c.in_default.ensures.0)

pub returns : goal.returns
returns c =
    let none : into_iter_items c.loop-event.event-iterator ≡ [] = nil_from_length (into_iter_items c.loop-event.event-iterator) (let k = c.in-None.ensures.steps.0 in omega (arith, c.loop-event.event-iterator.rest.ok.0)) in
    let l : Leads loose_machine c.args.events.items c.args.start [] c.loop-event.core c.loop-event.index = subst (λ vs. Leads loose_machine c.args.events.items c.args.start vs c.loop-event.core c.loop-event.index) none c.loop-event.invariant in
    let may = l.allowed tt in
    record { done = l.done; allowed = may; safe = always_safe plain c.args.events.items c.args.start c.is_safe.ensures.facts may; refused = tt }
