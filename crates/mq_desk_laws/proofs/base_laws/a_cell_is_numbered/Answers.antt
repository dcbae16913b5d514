use Rattle.mq_desk_laws.proofs.Pages.{numbered_of}
use Rattle.mq_desk_laws.proofs.base_laws.a_cell_is_numbered.Goals as goal

pub returns : goal.returns
returns c = λ k ended x version logged home due v l h. numbered_of k ended x version logged home due v l h
