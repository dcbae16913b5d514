use Rattle.mq_state_laws.proofs.PartsMarks.{mark_least, mark_undone, marks_length}
use Rattle.mq_state_laws.proofs.laws.marks_are_the_least_undone.Goals as goal

pub returns : goal.returns
returns c = record {
  many = λ p. marks_length _ 0 p.geometry.queues;
  undone = λ p q own. mark_undone p q own;
  least = λ p t ts own at undone. mark_least p t ts own at undone;
}
