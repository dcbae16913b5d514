use Rattle.std.proofs.Common.{refl}
use Rattle.std.proofs.lemmas.Bool.{eq-eqb, ne_eqb}
use Rattle.mq_exec.proofs.rename.is_full.Goals as goal

pub returns-then-from-into : goal.returns-then-from-into
returns-then-from-into c = rw (ne_eqb c.args.from c.args.into c.if-from-into.true) c.is_full.ensures

pub returns-else-from-into : goal.returns-else-from-into
returns-else-from-into c = rw (eq-eqb c.args.from c.args.into c.if-from-into.false) refl
