-- Blocks by where a transaction writes them.
use Rattle.std.specs.Prelude.{ℕ, ◌≤◌, List}
use Rattle.mq_blocks.specs.Limits.{list_limit}

pub record Placed : Type 0 where
  -- in the journal area of its queue
  pub logged : List ℕ
  -- at home
  pub direct : List ℕ
  -- at home, and their earlier copies count no more
  pub revoked : List ℕ

-- lists of these capacities have room for the blocks of any transaction
pub record HasRoom (logged direct revoked : ℕ) : Type 0 where
  pub in_logged : list_limit ≤ logged
  pub in_direct : list_limit ≤ direct
  pub in_revoked : list_limit ≤ revoked
