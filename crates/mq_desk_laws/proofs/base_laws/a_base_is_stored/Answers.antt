use Rattle.mq_desk_laws.proofs.BasesRoots.{stands_stored, stands_flushed}
use Rattle.mq_desk_laws.proofs.base_laws.a_base_is_stored.Goals as goal

pub returns : goal.returns
returns c = record {
  stored = λ k b p root ok. stands_stored k p b root ok;
  flushed = λ k p root. stands_flushed k p root;
}
