use Rattle.mq_loose_order.proofs.FormSound.{loose-sound}
use Rattle.mq_loose_order.proofs.laws.loose_form_is_sound.Goals as goal

pub returns : goal.returns
returns c = loose-sound
