use Rattle.std.proofs.Common.{ap}
use Rattle.std.specs.Option.{option_copied}
use Rattle.mq_kv_buckets.proofs.StepsTaken.{absent-place}
use Rattle.mq_kv_buckets.proofs.step.place_of.Goals as goal

pub returns-in-None : goal.returns-in-None
returns-in-None c = absent-place (option_copied c.args.bucket) c.args.key.now (ap option_copied c.in-None.is)
