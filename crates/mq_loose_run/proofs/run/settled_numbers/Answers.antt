use Rattle.std.proofs.Common.{ℕ, Bool, [], sym, ◌∙◌, ap, Vec, Global}
use Rattle.mq_loose.specs.Guards.{settled}
use Rattle.mq_loose_queues.specs.Journal.{state_over}
use Rattle.mq_loose_run.specs.Lines.{queues_state}
use Rattle.mq_loose_run.proofs.Settled.{number_in, number_out}
use Rattle.mq_loose_run.proofs.run.settled_numbers.Goals as goal
use Rattle.mq_loose_run.proofs.run.settled_numbers.Goals.{in-true+in_ok-push-in-true, in-false}

pub loop-before-preserved : goal.loop-before-preserved
loop-before-preserved c s h j =
    let S : ℕ → Bool = settled (state_over s h [] (queues_state c.args.queues.now)) in
    let here = c.settled-settled.ensures s h j in
    elim c.if-settled.branch [
      | in-true+in_ok-push-in-true w ↦
          number_in S c.loop-before.before c.loop-before.numbers.items c.if-settled.numbers.items (c.loop-before.invariant s h j) (sym here ∙ w.in-true.is) (ap (λ (v : Vec ℕ Global). v.items) w.numbers-is ∙ w.in_ok-push-in-true.ensures.items)
      | in-false w ↦
          number_out S c.loop-before.before c.loop-before.numbers.items c.if-settled.numbers.items (c.loop-before.invariant s h j) (sym here ∙ w.in-false.is) (ap (λ (v : Vec ℕ Global). v.items) w.numbers-is)
    ]
