use Rattle.std.proofs.Common.{sym, subst, arith}
use Rattle.std.proofs.lemmas.List.{length-map}
use Rattle.mq_loose_queues.specs.Queues.{QueuesState, parts_state, stored_state}
use Rattle.mq_loose_queues.proofs.DrawCalls.{base_low}
use Rattle.mq_loose_queues.proofs.Readied.{HasJournal, own_any}
use Rattle.mq_loose_queues.proofs.parts.Parts.commit.Goals as goal

pub refusal-requires-clause-queue : goal.refusal-requires-clause-queue
refusal-requires-clause-queue g c =
    let p = c.args.self.now in
    let within = own_any (parts_state g.P.Port.state g.P.Port.faults p) c.args.queue c.requires.journal c.requires.request.queue in
    let long = length-map p.sides.items (stored_state g.P.Port.state g.P.Port.faults) in
    omega (arith, within, long)

pub next_number-number-requires : goal.next_number-number-requires
next_number-number-requires g c =
    let low = base_low (parts_state g.P.Port.state g.P.Port.faults c.args.self.now) c.requires.journal in
    let few = c.requires.few in
    omega (arith, low, few)

pub draw-requires-clause-journal : goal.draw-requires-clause-journal
draw-requires-clause-journal g c = subst (λ (v : QueuesState). HasJournal v) (sym c.in_ok-ready.ensures.same) c.requires.journal
