use Rattle.std.proofs.Common.{refl}
use Rattle.mq_exec.proofs.rename.move_need.Goals as goal
use Rattle.std.proofs.lemmas.Bool.{eq-eqb, ne_eqb}

pub returns-then-from-into : goal.returns-then-from-into
returns-then-from-into c = rw (eq-eqb c.args.from c.args.into c.if-from-into.true) refl

pub returns : goal.returns
returns c = rw (ne_eqb c.args.from c.args.into c.if-from-into.false) c.link_need.ensures
