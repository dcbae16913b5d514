use Rattle.std.proofs.Common.{ap}
use Rattle.std.specs.Option.{option_copied}
use Rattle.mq_kv_buckets.proofs.StepsTaken.{absent-read}
use Rattle.mq_kv_buckets.proofs.step.read.Goals as goal

pub returns-in_default : goal.returns-in_default
returns-in_default c = absent-read (option_copied c.args.bucket) c.args.key.now (ap option_copied c.in_default.is)
