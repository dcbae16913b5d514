use Rattle.mq_image.proofs.Faults.{exact-of, finds-first}
use Rattle.mq_image.proofs.read.read_image.Goals as goal

pub returns-clause-finds : goal.returns-clause-finds
returns-clause-finds c = finds-first c.args.bytes.now c.read_file.result (λ x. x.geometry) c.read_file.ensures.finds

pub returns-clause-exact : goal.returns-clause-exact
returns-clause-exact c = exact-of c.args.bytes.now c.read_file.result (finds-first c.args.bytes.now c.read_file.result (λ x. x.geometry) c.read_file.ensures.finds)
