-- A side that was opened over ports that were recovered.
use Rattle.std.specs.Prelude.{◌≡◌, ℕ, []}
use Rattle.mq_blocks.specs.declared.geometry.Geometry.{Geometry}
use Rattle.mq_queue_side.specs.Laws.{IsFresh}
use Rattle.mq_replica.specs.Opened.{OpenedState}

-- nothing was drawn on it, and the last number is the base
pub record IsFreshOpened (g : Geometry) (base : ℕ) (v : OpenedState) : Type 0 where
  pub fresh : IsFresh v.side
  pub geometry : v.side.geometry ≡ g
  pub queue : v.side.queue ≡ 0
  pub rows : v.rows ≡ []
  pub number : v.number ≡ base
