use Rattle.mq_kv_buckets.proofs.StoreLaws.{groups-run, on-store, replies-are}
use Rattle.mq_kv_buckets.proofs.laws.buckets_are_a_store.Goals as goal

pub returns : goal.returns
returns c = record { replies = replies-are; each = on-store; groups = groups-run }
