use Rattle.mq_kv_entries.proofs.LawsAlike.{does-alike, untouched}
use Rattle.mq_kv_entries.proofs.group_laws.a_group_looks_at_its_buckets.Goals as goal

pub returns : goal.returns
returns c = λ buckets m n ops h. (does-alike buckets m n ops h, untouched buckets m ops)
