-- What runs of calls make of a queue's port.
use Rattle.std.specs.Prelude.{◌≢◌, ℕ, ◌+◌, Bool, true, List, [], ◌∷◌, length, Option, Some, slice_set}
use Rattle.mq_blocks.specs.Drive.{PortState, counted, index_of, staged_end, after_flush, after_ring, after_store_head}
use Rattle.mq_blocks.specs.declared.command.Command.{Command}
use Rattle.mq_pmr.specs.Runs.{Items, after_some}

-- blocks with those of the commands written in this order, where `at` gives each Lba's place
abbrev pub blocks_with : (ℕ → ℕ) → List (Option (List ℕ)) → List Command → List (Option (List ℕ))
blocks_with at blocks [] = blocks
blocks_with at blocks (c ∷ cs) = blocks_with at (slice_set blocks (at c.lba) (Some c.block)) cs

abbrev pub certain_with : (ℕ → ℕ) → List Bool → List Command → List Bool
certain_with at certain [] = certain
certain_with at certain (c ∷ cs) = certain_with at (slice_set certain (at c.lba) true) cs

-- all posted commands have ended with success
abbrev pub after_all : PortState → PortState
after_all s = record s {
  posted = [];
  blocks = blocks_with (index_of s) s.blocks s.posted;
  certain = certain_with (index_of s) s.certain s.posted;
  events = counted s.events (length s.posted);
}

-- no two commands write one block
abbrev pub IsApart : (ℕ → ℕ) → ℕ → List Command → Type 0
IsApart at k [] = Unit {0}
IsApart at k (c ∷ cs) = (k ≢ at c.lba) × IsApart at k cs

abbrev pub AreApart : (ℕ → ℕ) → List Command → Type 0
AreApart at [] = Unit {0}
AreApart at (c ∷ cs) = IsApart at (at c.lba) cs × AreApart at cs

-- no two items go to one block
abbrev pub IsNewIn : (ℕ → ℕ) → ℕ → Items → Type 0
IsNewIn at k [] = Unit {0}
IsNewIn at k (i ∷ is) = (k ≢ at i.0) × IsNewIn at k is

abbrev pub AreDistinct : (ℕ → ℕ) → Items → Type 0
AreDistinct at [] = Unit {0}
AreDistinct at (i ∷ is) = IsNewIn at (at i.0) is × AreDistinct at is

-- a whole transaction is staged, flushed and rung by one doorbell write, all its commands are
-- executed, and the head is stored past it and flushed
unfoldable pub after_line : PortState → ℕ → Items → PortState
after_line s tx items =
    after_flush (after_store_head
    (after_all (after_ring (after_flush (after_some s tx (length items) items))))
    (staged_end s + length items))
