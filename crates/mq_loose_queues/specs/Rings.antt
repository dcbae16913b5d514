-- The ports of sides, and what their rings keep to.
use Rattle.std.specs.Prelude.{◌<◌, ◌≤◌, ℕ, ◌+◌, List, length, map, slice_index_or}
use Rattle.mq_blocks.specs.Drive.{PortState, staged_end}
use Rattle.mq_blocks.specs.Limits.{usable_depth}
use Rattle.mq_drive.specs.declared.port.Port.{Ghosts}
use Rattle.mq_queue_side.specs.declared.side.QueueSide.{QueueSide}

module _ {P E : Type 0} {G : Ghosts P} (state : P → PortState) where
  abbrev pub ports_in : List (QueueSide P E G) → List PortState
  ports_in sides = map (λ s. state s.pmr.port) sides

  -- the entries from the flushed head on fit into the ring
  pub record IsRingIn (s : QueueSide P E G) : Type 0 where
    pub head : (state s.pmr.port).head ≤ staged_end (state s.pmr.port)
    pub room : staged_end (state s.pmr.port) ≤ (state s.pmr.port).head + usable_depth

  abbrev pub AreRings : List (QueueSide P E G) → Type 0
  AreRings sides = (q : ℕ) (d : QueueSide P E G) → q < length sides → IsRingIn (slice_index_or sides q d)
