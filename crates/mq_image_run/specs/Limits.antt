-- The numbers above which a run begins.
use Rattle.std.specs.Prelude.{◌≡◌, ◌⊎◌, ◌<◌, ◌≤◌, ◌^◌, ℕ}
use Rattle.mq_blocks.specs.Geometry.{queues_of}
use Rattle.mq_image.specs.File.{DriveImage}
use Rattle.mq_image_ops.specs.Views.{view_of}

abbrev pub run_limit : ℕ
run_limit = 2 ^ 62

-- neither the base nor the doorbell of one of the first queues is above the limit
pub record AreBelow (queues : ℕ) (x : DriveImage) (base : ℕ) : Type 0 where
  pub base_low : base ≤ run_limit
  pub doorbells : (q : ℕ) → q < queues → (view_of x).doorbell q ≤ run_limit

-- the same of all queues
abbrev pub AreWithin : DriveImage → (base : ℕ) → Type 0
AreWithin x base = AreBelow (queues_of x.geometry) x base

-- The number is above the limit: it is the base, or else the doorbell of the first such queue.
abbrev pub IsFirstAbove : DriveImage → (base : ℕ) → ℕ → Type 0
IsFirstAbove x base n =
    (run_limit < n)
    × ((n ≡ base)
    ⊎ ((q : ℕ) × (q < queues_of x.geometry) × AreBelow q x base × (n ≡ (view_of x).doorbell q)))
