use Rattle.mq_image_ops.proofs.StandingRestarts.{blocks-stand, none-above, volume-stands}
use Rattle.mq_image_ops.proofs.laws.a_recovered_image_holds_what_stood.Goals as goal

pub returns : goal.returns
returns c = record {
  blocks = λ x r fuse fail p s recovery started stood. blocks-stand x r fuse fail p recovery started s stood;
  prefix = λ x r fuse fail p s recovery started stood. none-above x r fuse fail p recovery started s stood;
  volume = λ x r fuse fail p s v recovery started stood laid. volume-stands x r fuse fail p recovery started s stood v laid;
}
