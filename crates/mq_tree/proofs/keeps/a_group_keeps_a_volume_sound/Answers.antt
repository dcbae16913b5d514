use Rattle.mq_tree.proofs.KeptSteps.{group-sound, step-sound}
use Rattle.mq_tree.proofs.keeps.a_group_keeps_a_volume_sound.Goals as goal

pub returns : goal.returns
returns c = record { request = step-sound; group = group-sound }
