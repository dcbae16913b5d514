use Rattle.mq_desk_laws.proofs.Pages.{raise_all}
use Rattle.mq_desk_laws.proofs.base_laws.stopped_pages_make_a_base.Goals as goal

pub returns : goal.returns
returns c = λ k version logged home log all numbers brought. raise_all k version logged home log all numbers brought
