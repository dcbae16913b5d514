use Rattle.std.proofs.Common.{sym, arith}
use Rattle.mq_kv_buckets.proofs.BucketsNext.{number-last, number-past}
use Rattle.mq_kv_buckets.proofs.record.length_at.Goals as goal

pub returns-then-at-bytes-2-clause-is : goal.returns-then-at-bytes-2-clause-is
returns-then-at-bytes-2-clause-is c = sym (number-last c.args.at c.args.bytes.now (omega arith))

pub returns-clause-is : goal.returns-clause-is
returns-clause-is c = sym (number-past c.args.at c.args.bytes.now (omega arith))
