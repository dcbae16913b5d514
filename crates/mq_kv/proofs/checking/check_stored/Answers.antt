use Rattle.std.proofs.Common.{List, [], Option, ℕ, sym, subst}
use Rattle.mq_blocks.specs.Blocks.{content, zeros}
use Rattle.mq_kv_buckets.specs.Buckets.{IsFormed}
use Rattle.mq_kv_buckets.proofs.BucketsChecked.{formed}
use Rattle.mq_kv_buckets.proofs.StepsTaken.{zeros-bucket}
use Rattle.mq_kv.proofs.checking.check_stored.Goals as goal

pub returns-in-None : goal.returns-in-None
returns-in-None c =
    let P : Option (List ℕ) → Type 0 = λ o. IsFormed (content o) in
    subst P (sym c.in-None.is) (formed zeros [] zeros-bucket)
