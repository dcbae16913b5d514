use Rattle.std.proofs.Common.{refl}
use Rattle.mq_state_laws.proofs.PartsStates.{marks_from_facts, parts_from}
use Rattle.mq_state_laws.proofs.laws.a_lawful_state_has_parts.Goals as goal

pub returns : goal.returns
returns c = record {
  parts = λ e s f. (parts_from e s f, marks_from_facts e s f);
  state = λ e s. (refl, refl);
}
