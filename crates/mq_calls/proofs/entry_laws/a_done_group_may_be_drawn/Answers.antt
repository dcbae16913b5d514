use Rattle.mq_calls.proofs.Entries.{drawn, few, in_order, meets, placement, ps, told}
use Rattle.mq_calls.proofs.entry_laws.a_done_group_may_be_drawn.Goals as goal

pub returns : goal.returns
returns c = λ k requests done e d is n p.
    c.a_plan_meets_the_guard.ensures k (drawn k requests done e d is p) (ps k requests done e d is p) e.reads.front e.reads.base (in_order k requests done e d is p) (few k requests done e d is p) (told k requests done e d is p) p.front_low p.base_low (placement k requests done e d is p) (meets k requests done e d is p n)
