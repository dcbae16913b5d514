use Rattle.mq_desk_laws.proofs.Claims.{done_later, front_covers}
use Rattle.mq_desk_laws.proofs.base_laws.done_queues_reach_the_front.Goals as goal

pub returns : goal.returns
returns c = record {
  front = λ k n log low each. front_covers k n log low each;
  stay = λ k l q n log grown low each. done_later k l q n log grown low each;
}
