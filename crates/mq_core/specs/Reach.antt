-- The numbers that the images of a state reach.
use Rattle.std.specs.Prelude.{◌≡◌, ◌≤◌, ℕ, ◌+◌, Bool, List, length, nat_le}
use Rattle.mq_blocks.specs.Descriptor.{Descriptor}
use Rattle.mq_blocks.specs.Drive.{PortState, PortImage}
use Rattle.mq_blocks.specs.Journal.{Reaches, shown}
use Rattle.mq_ledger.specs.History.{writes, of_queue, part_of}
use Rattle.mq_ledger.specs.Items.{Entries, end_of, descriptor_blocks, reading_of}
use Rattle.mq_ledger.specs.State.{State, AreImages, from_at, port_at}
use Rattle.mq_ledger.specs.declared.tx.Tx.{Tx}

-- the stored head is past the transaction, where these stand before it
abbrev pub is_stored : List ℕ → List PortState → Tx → List Tx → Bool
is_stored starts ports t ts =
    nat_le (end_of (from_at starts t.queue) (of_queue t.queue ts) + (writes t + descriptor_blocks t))
    (port_at ports t.queue).stored_head

-- the greatest number such that the stored heads are past all up to it
abbrev pub stored_front : State → ℕ
stored_front s = s.base + length (part_of (is_stored s.starts s.ports) s.history)

-- each image reaches a number from one up to another
abbrev pub ReachBetween : Entries → State → ℕ → ℕ → Type 0
ReachBetween e s low high =
    (queues : List PortImage) (root : PortImage) (ds : List Descriptor) → AreImages s queues root
    → Reaches s.geometry (shown (reading_of e) s.geometry queues root) ds
    → (low ≤ root.base + length ds) × (root.base + length ds ≤ high)

-- some image reaches the number
pub record IsReached (e : Entries) (s : State) (n : ℕ) : Type 0 where
  pub queues : List PortImage
  pub root : PortImage
  pub images : AreImages s queues root
  pub ds : List Descriptor
  pub reaches : Reaches s.geometry (shown (reading_of e) s.geometry queues root) ds
  pub number : root.base + length ds ≡ n
