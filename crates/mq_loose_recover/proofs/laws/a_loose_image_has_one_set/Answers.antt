use Rattle.mq_loose_recover.proofs.ImagesFound.{read-same}
use Rattle.mq_loose_recover.proofs.laws.a_loose_image_has_one_set.Goals as goal

pub returns : goal.returns
returns c = read-same
