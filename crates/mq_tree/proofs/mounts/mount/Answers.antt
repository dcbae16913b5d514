use Rattle.mq_tree.proofs.FirstFindings.{phase-first, phase-refuses}
use Rattle.mq_tree.proofs.TreesMounted.{refused-none_without}
use Rattle.mq_tree.proofs.mounts.mount.Goals as goal

pub returns-in-Err-clause-cause : goal.returns-in-Err-clause-cause
returns-in-Err-clause-cause c = phase-refuses c.args.geometry c.args.blocks.now c.in-Err.refusal c.without_phase.result c.in-Err.ensures.cause c.without_phase.ensures

pub returns-in-Err-clause-first : goal.returns-in-Err-clause-first
returns-in-Err-clause-first c = phase-first c.args.geometry c.args.blocks.now c.in-Err.refusal c.without_phase.result c.in-Err.ensures.cause c.without_phase.ensures

pub returns-in-Err-clause-none : goal.returns-in-Err-clause-none
returns-in-Err-clause-none c other t of = refused-none_without c.in-Err.refusal c.without_phase.result ⊥ (λ r. c.in-Err.ensures.none r t of) c.without_phase.ensures other
