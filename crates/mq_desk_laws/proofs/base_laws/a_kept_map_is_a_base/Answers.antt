use Rattle.mq_desk_laws.proofs.BasesOpenings.{base_due, first_base, greater_base}
use Rattle.mq_desk_laws.proofs.base_laws.a_kept_map_is_a_base.Goals as goal

pub returns : goal.returns
returns c = record {
  kept = λ k b log low reached due. base_due k b log low reached due;
  first = λ k ended log due. first_base k ended log due;
  greater = λ k b c one other. greater_base k b c one other;
}
