use Rattle.mq_image_ops.proofs.StandingRestarts.{base-found, doorbells-kept, may-start, still}
use Rattle.mq_image_ops.proofs.laws.a_recovered_image_starts.Goals as goal

pub returns : goal.returns
returns c = record {
  still = λ x r fuse fail p recovery started. still x r fuse fail p recovery started;
  start = λ x r fuse fail p recovery started. may-start x r fuse fail p recovery started;
  base = λ x r fuse fail p recovery started. base-found x r fuse fail p recovery started;
  doorbells = λ x r fuse fail p recovery started. doorbells-kept x r fuse fail p recovery started;
}
