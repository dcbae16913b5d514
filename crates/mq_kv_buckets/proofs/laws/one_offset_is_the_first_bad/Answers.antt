use Rattle.mq_kv_buckets.proofs.BucketsWrong.{never-bad, only-bad}
use Rattle.mq_kv_buckets.proofs.KeysOrder.{split}
use Rattle.mq_kv_buckets.proofs.laws.one_offset_is_the_first_bad.Goals as goal

pub returns : goal.returns
returns c = let s = split in record { never = never-bad; one = only-bad }
