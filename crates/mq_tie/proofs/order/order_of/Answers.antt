use Rattle.std.proofs.Common.{◌≡◌, ℕ, sym, subst, ap, ◌∙◌, inl, inr, arith}
use Rattle.std.proofs.lemmas.Bool.{cases_lt}
use Rattle.mq_tie.specs.Stored.{IsNoted, drawn_at, stored_by}
use Rattle.mq_tie.proofs.Stored.{in-side}
use Rattle.mq_tie.proofs.order.order_of.Goals as goal

pub note_queue-requires-clause-within : goal.note_queue-requires-clause-within
note_queue-requires-clause-within g c = λ s d e.
    let w = c.requires.within s d e in
    let long = c.loop-queue.invariant.long in
    (w.0, let high = w.1 in omega (arith, c.loop-queue.order.ok.0))

pub loop-queue-preserved : goal.loop-queue-preserved
loop-queue-preserved g c = record {
  long = let n = c.note_queue.ensures.length in let long = c.loop-queue.invariant.long in omega (arith, c.loop-queue.order.ok.0, c.note_queue.new.order.ok.0);
  noted = λ queue place d l e. elim (cases_lt queue c.loop-queue.queue) [
    | inl before ↦ c.note_queue.ensures.kept d.number (c.loop-queue.invariant.noted queue place d before e)
    | inr not ↦
        let same : queue ≡ c.loop-queue.queue = omega arith in
        c.note_queue.ensures.noted place d (ap (λ (q : ℕ). drawn_at (stored_by c.args.sides.now) (record { queue = q; place = place })) (sym same) ∙ e)
  ];
}

pub returns-clause-noted : goal.returns-clause-noted
returns-clause-noted g c = λ n lo hi.
    let h = c.requires.all n lo hi in
    let w = in-side c.args.sides.now h.entry_place h.drawn h.found in
    let inside = w.inside in
    subst (λ (m : ℕ). IsNoted (stored_by c.args.sides.now) c.args.base c.loop-queue.order.items m) h.number (c.loop-queue.invariant.noted h.entry_place.queue h.entry_place.place h.drawn (omega arith) h.found)
