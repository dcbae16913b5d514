use Rattle.std.proofs.Common.{◌+◌, ◌≤◌, arith, sym, inl, inr, ◌∙◌}
use Rattle.std.proofs.lemmas.Bool.{cases_lt, false≢true}
use Rattle.mq_core.proofs.Stored.{clear_less, clear_first}
use Rattle.mq_core.proofs.machine.reach.lowered.Goals as goal
use Rattle.mq_core.proofs.machine.reach.lowered.Goals.{In-loop-queue}

not_zero : (c : In-loop-queue) → 1 ≤ c.loop-queue.lowest
not_zero c = elim (cases_lt 0 c.loop-queue.lowest) [
  | inl some ↦ omega arith
  | inr none ↦
      let l = c.args.ledger.now in
      let clear = clear_less l c.args.queue c.args.head (l.base + 1) (c.loop-queue.lowest + 1) (clear_first l c.args.queue c.args.head c.requires.numbers) (omega (arith, none)) in
      absurd (false≢true (sym c.loop-queue-test.true ∙ c.is_clear.ensures.1 clear))
]

pub overflow_sub-lowest : goal.overflow_sub-lowest
overflow_sub-lowest c = not_zero c

pub loop-queue-smaller : goal.loop-queue-smaller
loop-queue-smaller c = omega (arith, not_zero c)
