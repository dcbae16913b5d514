use Rattle.mq_image_laws.proofs.RestLeft.{leaves-rest}
use Rattle.mq_image_laws.proofs.rest.a_recovery_leaves_the_rest.Goals as goal

pub returns : goal.returns
returns c = leaves-rest
