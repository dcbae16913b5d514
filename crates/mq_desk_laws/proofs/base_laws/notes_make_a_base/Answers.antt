use Rattle.mq_desk_laws.proofs.Pages.{raise}
use Rattle.mq_desk_laws.proofs.base_laws.notes_make_a_base.Goals as goal

pub returns : goal.returns
returns c = λ k b log low reached each. raise k b log low reached each
