-- A group that was committed, or that read only.
use Rattle.std.specs.Prelude.{ℕ, List}
use Rattle.mq_kv_buckets.specs.declared.operation.KvReply.{KvReply}

pub record Synced : Type 0 where
  pub replies : List KvReply
  pub at : ℕ
