-- What a queue keeps, and how it stands to its port.
use Rattle.std.specs.Prelude.{◌≡◌, ◌<◌, ◌≤◌, ℕ, ◌+◌, ◌%◌, Bool, true, false, List, [], ◌∷◌, All, length, IsSome, Option, Some, nat_eq, if◌then◌else◌}
use Rattle.mq_blocks.specs.Drive.{PortState, staged_end, after_flush, after_store_head}
use Rattle.mq_blocks.specs.Limits.{depth, usable_depth}
use Rattle.mq_blocks.specs.declared.command.Command.{Command}
use Rattle.mq_blocks.specs.declared.geometry.Geometry.{Geometry}
use Rattle.mq_drive.specs.Start.{IsPortOf}
use Rattle.mq_drive.specs.declared.role.Role.TheVariants.{Queue}
use Rattle.mq_pmr.specs.Slots.{done_at, tx_in}
use Rattle.mq_pmr.specs.declared.rungs.Rung.{Rung}
use Rattle.mq_pmr.specs.declared.slots.SlotRecord.{SlotRecord}

-- what a queue keeps beside its port
pub record Kept : Type 0 where
  pub slots : List SlotRecord
  pub end : ℕ
  pub head : ℕ
  pub stored_head : ℕ
  pub passed : ℕ
  pub done : Rung
  pub rung : List Rung
  pub staged : Option ℕ

-- how many of these commands stand at a count
abbrev pub times : ℕ → List Command → ℕ
times n [] = 0
times n (c ∷ cs) = (if nat_eq c.count n then 1 else 0) + times n cs

-- how many commands at a count have not ended with success
abbrev pub waiting : PortState → ℕ → ℕ
waiting s n = times n s.pending + (times n s.posted + times n s.failed)

abbrev pub one_unless : Bool → ℕ
one_unless true = 0
one_unless false = 1

-- the slots of these commands have the numbers of their transactions
abbrev pub AreNamed : List SlotRecord → List Command → Type 0
AreNamed slots cs = All (λ c. tx_in slots (c.count % depth) ≡ c.tx) cs

pub record Fits (s : PortState) (k : Kept) : Type 0 where
  pub queue : IsSome s.queue
  pub ring : length k.slots ≡ depth
  pub end : k.end ≡ staged_end s
  pub head : k.head ≡ s.head
  pub stored_head : k.stored_head ≡ s.stored_head
  -- the counts in order
  pub heads : k.head ≤ k.stored_head
  pub stored : k.stored_head ≤ k.done.end
  pub done : k.done.end ≤ k.passed
  pub passed : k.passed ≤ s.doorbell
  pub room : k.end ≤ k.head + usable_depth
  -- one command waits at each count that is neither passed nor done
  pub below : (n : ℕ) → n < k.passed → waiting s n ≡ 0
  pub within : (n : ℕ) → k.passed ≤ n → n < k.end → waiting s n ≡ one_unless (done_at k.slots n)
  pub above : (n : ℕ) → k.end ≤ n → waiting s n ≡ 0
  pub pending : (n : ℕ) → n < s.doorbell → times n s.pending ≡ 0
  pub named_pending : AreNamed k.slots s.pending
  pub named_posted : AreNamed k.slots s.posted
  pub staged : (tx : ℕ) → k.staged ≡ Some tx → s.doorbell < k.end

-- it is the port of this queue, and what is flushed was staged
pub record IsRingOf (g : Geometry) (q : ℕ) (s : PortState) : Type 0 where
  pub port : IsPortOf g (Queue q) s
  pub flushed : s.flushed_end ≤ staged_end s

-- the head is where it was, or stored anew and flushed
abbrev pub after_head : PortState → ℕ → PortState
after_head s head = if nat_eq s.head head then s else after_flush (after_store_head s head)
