use Rattle.mq_desk_laws.proofs.Bases.{base_later}
use Rattle.mq_desk_laws.proofs.BasesRoots.{grown_word, log_raised, side_raised, stands_raised}
use Rattle.mq_desk_laws.proofs.base_laws.a_base_is_raised.Goals as goal

pub returns : goal.returns
returns c = record {
  log = λ k b log ok above.
      let then = log_raised k b log above ok.reached in
      let grown = grown_word k b above in
      (then, grown, base_later k (record k { word = b }) b log then grown ok);
  side = λ k b q txs p log above reached side. side_raised k b log above reached q txs p side;
  root = λ k b p log root above low. stands_raised k b p log root above low;
}
