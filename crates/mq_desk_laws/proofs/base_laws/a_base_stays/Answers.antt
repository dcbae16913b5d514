use Rattle.mq_desk_laws.proofs.Bases.{base_later, front_grown, grown_on}
use Rattle.mq_desk_laws.proofs.base_laws.a_base_stays.Goals as goal

pub returns : goal.returns
returns c = record {
  base = λ k l b log then grown ok. base_later k l b log then grown ok;
  front = λ k l grown. front_grown k l grown;
  on = λ k l m first next. grown_on k l m first next;
}
