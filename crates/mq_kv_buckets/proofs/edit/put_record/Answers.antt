use Rattle.mq_kv_buckets.proofs.EditsMoved.{record-written}
use Rattle.mq_kv_buckets.proofs.edit.put_record.Goals as goal

pub returns : goal.returns
returns c = record-written _ _ _ _ _ c.args.at c.args.key.now c.args.value.now c.requires.fits (rw c.to_le_bytes.ensures at c.put.ensures) (rw c.to_le_bytes-2.ensures at c.put-2.ensures) c.put-3.ensures c.put-4.ensures
