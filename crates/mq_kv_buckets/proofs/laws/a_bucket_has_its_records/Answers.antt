use Rattle.mq_kv_buckets.proofs.BucketsReading.{its-records}
use Rattle.mq_kv_buckets.proofs.laws.a_bucket_has_its_records.Goals as goal

pub returns : goal.returns
returns c = its-records
