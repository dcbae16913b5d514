-- The sides of all queues over their ports.
use Rattle.std.specs.Prelude.{◌≡◌, ℕ, [], None}
use Rattle.mq_blocks.specs.Drive.{PortState}
use Rattle.mq_blocks.specs.declared.geometry.Geometry.{Geometry}
use Rattle.mq_drive.specs.Start.{IsPortOf}
use Rattle.mq_drive.specs.declared.port.Port.{Ghosts}
use Rattle.mq_drive.specs.declared.role.Role.TheVariants.{Queue}
use Rattle.mq_queue_side.specs.declared.side.QueueSide.{QueueSide}

-- Nothing is under way on the port of the queue.
pub record IsIdle (g : Geometry) (q : ℕ) (p : PortState) : Type 0 where
  pub port : IsPortOf g (Queue q) p
  pub head : p.head ≡ p.doorbell
  pub stored_head : p.stored_head ≡ p.doorbell
  pub pending : p.pending ≡ []
  pub posted : p.posted ≡ []
  pub failed : p.failed ≡ []
  pub flushed : p.flushed_end ≡ p.doorbell

module _ {P E : Type 0} {G : Ghosts P} (state : P → PortState) where
  -- the side of the queue, on which nothing was drawn yet
  pub record IsNewSide (g : Geometry) (q : ℕ) (s : QueueSide P E G) : Type 0 where
    pub geometry : s.pmr.geometry ≡ g
    pub queue : s.pmr.queue ≡ q
    pub idle : IsIdle g q (state s.pmr.port)
    pub passed : s.pmr.done ≡ record { tx = 0; end = (state s.pmr.port).doorbell }
    pub rung : s.pmr.rung.items ≡ []
    pub stored : s.stored.items ≡ []
    pub done : s.done ≡ 0
    pub kept : s.kept ≡ None
