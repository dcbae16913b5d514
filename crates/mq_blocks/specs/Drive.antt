-- The drive as its ports show it: what a port keeps, and what each call makes of it.
--
-- A port is one queue's part of the drive, or the root's: submission queue, doorbell and head in the
-- persistent memory region (NVM Express 1.4, "Persistent Memory Region"; Liao et al., SOSP 2021), the
-- queue's journal area and its home blocks. Counts and places are absolute and never wrap.
use Rattle.std.specs.Prelude.{◌≡◌, ◌≢◌, ◌⊎◌, ◌<◌, ◌≤◌, ℕ, ◌+◌, ◌-◌, ◌%◌, ◌^◌, zero, suc, min, Bool, true, false, List, [], ◌∷◌, ◌++◌, length, Option, Some, None, slice_index_or, slice_set, nat_lt, nat_eq, if◌then◌else◌}
use Rattle.std.specs.Coded.{×_prop, Unit-prop, le_prop}
use Rattle.std.specs.List.{remove}
use Rattle.mq_blocks.specs.Limits.{depth}
use Rattle.mq_blocks.specs.Blocks.{block_at}
use Rattle.mq_blocks.specs.declared.command.Command.{Command}
use Rattle.mq_blocks.specs.declared.command.HomeWrite.{HomeWrite}

-- which event fuse it is: the number of events after which the power goes off, if one is given, and the
-- numbers that distinguish the fuse from all others
pub record FuseName : Type 0 where
  pub limit : Option ℕ
  pub table : List ℕ

-- of a port that no fuse switches off
abbrev pub no_fuse : FuseName
no_fuse = record { limit = None; table = [] }

pub record PortState : Type 0 where
  -- the queue whose port it is; the root's port is no queue's
  pub queue : Option ℕ
  -- its blocks on the namespace: the journal area's, and the home blocks
  pub area_first : ℕ
  pub area_size : ℕ
  pub homes_first : ℕ
  pub homes_size : ℕ
  -- the dwords of each slot: as last flushed, and as last staged
  pub flushed : List (List ℕ)
  pub staged : List (List ℕ)
  -- the entries from this count on are not flushed
  pub flushed_end : ℕ
  -- the commands of the entries that are staged and not rung, in order of count
  pub pending : List Command
  pub doorbell : ℕ
  -- rung and not ended; ended with an error
  pub posted : List Command
  pub failed : List Command
  -- the words, as last flushed and as last stored
  pub head : ℕ
  pub stored_head : ℕ
  pub base : ℕ
  pub stored_base : ℕ
  -- the area's blocks and then the home blocks, as last completed; None is a block of zeros
  pub blocks : List (Option (List ℕ))
  -- whether a write of the block completed after each of its failed commands and begun home writes
  pub certain : List Bool
  -- the home writes that have begun and not ended, in order
  pub begun : List HomeWrite
  -- how many there were: rings, home writes begun, and events other than those of home writes
  pub rings : ℕ
  pub begins : ℕ
  pub events : ℕ
  -- what no call changes: the fuse of its power, and which of its commands and home writes ends with an
  -- error, counted from 1, if one is given
  pub fuse : FuseName
  pub fail : Option ℕ

-- a port has the same fuse, and the same of its commands and home writes fails
pub record IsBoundKept (old new : PortState) : Type 0 where
  pub fuse : new.fuse ≡ old.fuse
  pub fail : new.fail ≡ old.fail

-- a count of 64 bits stands still at its end
abbrev pub counted : ℕ → ℕ → ℕ
counted n zero = n
counted n (suc k) = counted (min (n + 1) (2 ^ 64 - 1)) k

-- the count of the next entry
abbrev pub staged_end : PortState → ℕ
staged_end s = s.doorbell + length s.pending

-- the port has this block
abbrev pub Owns : PortState → ℕ → Type 0
Owns s lba =
    ((s.area_first ≤ lba) × (lba < s.area_first + s.area_size))
    ⊎ ((s.homes_first ≤ lba) × (lba < s.homes_first + s.homes_size))

-- it is a home block of the port
abbrev pub IsHome : PortState → ℕ → Type 0
IsHome s lba = (s.homes_first ≤ lba) × (lba < s.homes_first + s.homes_size)

-- where the block stands among the port's
abbrev pub index_of : PortState → ℕ → ℕ
index_of s lba =
    if nat_lt lba s.homes_first then lba - s.area_first else s.area_size + (lba - s.homes_first)

-- none of these commands stands below this count
abbrev pub AreFrom : ℕ → List Command → Type 0
AreFrom low [] = Unit {0}
AreFrom low (c ∷ cs) = (low ≤ c.count) × AreFrom low cs

-- commands in order of count, from one count on and below another
abbrev pub AreCounted : ℕ → ℕ → List Command → Type 0
AreCounted low high [] = Unit {0}
AreCounted low high (c ∷ cs) = (low ≤ c.count) × ((c.count < high) × AreCounted (c.count + 1) high cs)

pub AreCounted-prop : (low high : ℕ) (cs : List Command) → IsProp (AreCounted low high cs)
AreCounted-prop low high [] = Unit-prop
AreCounted-prop low high (c ∷ cs) = ×_prop le_prop (×_prop le_prop (AreCounted-prop (c.count + 1) high cs))

-- ---- what each call makes of a port

-- the next entry is staged: the write of this block
abbrev pub after_stage : PortState → List ℕ → ℕ → ℕ → List ℕ → PortState
after_stage s entry tx lba block = record s {
  staged = slice_set s.staged (staged_end s % depth) entry;
  pending = s.pending ++ record { count = staged_end s; tx = tx; lba = lba; block = block } ∷ [];
  events = counted s.events 1;
}

-- staged slots and stored words are certain
abbrev pub after_flush : PortState → PortState
after_flush s = record s {
  flushed = s.staged;
  flushed_end = staged_end s;
  head = s.stored_head;
  base = s.stored_base;
  events = counted s.events 1;
}

-- the doorbell is at the staged end, and what was staged is posted
abbrev pub after_ring : PortState → PortState
after_ring s = record s {
  doorbell = staged_end s;
  posted = s.posted ++ s.pending;
  pending = [];
  rings = counted s.rings 1;
  events = counted s.events 1;
}

-- a block is written
abbrev pub after_write : PortState → ℕ → List ℕ → PortState
after_write s lba block = record s {
  blocks = slice_set s.blocks (index_of s lba) (Some block);
  certain = slice_set s.certain (index_of s lba) true;
}

-- a block may hold anything until a later write of it completes
abbrev pub after_doubt : PortState → ℕ → PortState
after_doubt s lba = record s { certain = slice_set s.certain (index_of s lba) false }

-- the posted command at this index, which is c, has ended with success
abbrev pub after_done : PortState → ℕ → Command → PortState
after_done s i c =
    record (after_write s c.lba c.block) { posted = remove s.posted i; events = counted s.events 1 }

-- it has ended with an error
abbrev pub after_failed : PortState → ℕ → Command → PortState
after_failed s i c =
    record (after_doubt s c.lba)
    { posted = remove s.posted i; failed = s.failed ++ c ∷ []; events = counted s.events 1 }

abbrev pub after_store_head : PortState → ℕ → PortState
after_store_head s head = record s { stored_head = head; events = counted s.events 1 }

abbrev pub after_store_base : PortState → ℕ → PortState
after_store_base s base = record s { stored_base = base; events = counted s.events 1 }

-- a home write has begun
abbrev pub after_begin : PortState → ℕ → List ℕ → PortState
after_begin s lba block = record (after_doubt s lba) {
  begun = s.begun ++ record { lba = lba; block = block } ∷ [];
  begins = counted s.begins 1;
}

-- without the last of them that writes this block
abbrev pub holds_write : ℕ → List HomeWrite → Bool
holds_write lba [] = false
holds_write lba (w ∷ ws) = if nat_eq w.lba lba then true else holds_write lba ws

abbrev pub without_last : ℕ → List HomeWrite → List HomeWrite
without_last lba [] = []
without_last lba (w ∷ ws) =
    if holds_write lba ws then w ∷ without_last lba ws else (if nat_eq w.lba lba then ws else w ∷ ws)

-- the last home write of the block that has begun has ended
abbrev pub after_end : PortState → ℕ → List ℕ → PortState
after_end s lba block = record (after_write s lba block) { begun = without_last lba s.begun }

-- ---- what a power cut may leave

pub record PortImage : Type 0 where
  pub doorbell : ℕ
  pub head : ℕ
  pub base : ℕ
  pub slots : List (List ℕ)
  pub blocks : List (Option (List ℕ))

-- no entry that was staged since the last flush is in this slot
abbrev pub IsFlushed : PortState → ℕ → Type 0
IsFlushed s slot = (c : ℕ) → s.flushed_end ≤ c → c < staged_end s → c % depth ≢ slot

-- none of these commands writes the block at this index
abbrev pub IsApartFrom : PortState → ℕ → List Command → Type 0
IsApartFrom s k [] = Unit {0}
IsApartFrom s k (c ∷ cs) = (index_of s c.lba ≢ k) × IsApartFrom s k cs

-- the block at this index holds what was last completed
pub record IsCertain (s : PortState) (k : ℕ) : Type 0 where
  pub certain : slice_index_or s.certain k false ≡ true
  pub apart : IsApartFrom s k s.posted

-- An image keeps all that is certain and chooses the rest: the bytes of a slot that was staged since
-- the last flush, the flushed or the stored head and base, the bytes of an uncertain block.
pub record IsImage (s : PortState) (i : PortImage) : Type 0 where
  pub doorbell : i.doorbell ≡ s.doorbell
  pub head : (i.head ≡ s.head) ⊎ (i.head ≡ s.stored_head)
  pub base : (i.base ≡ s.base) ⊎ (i.base ≡ s.stored_base)
  pub slots_len : length i.slots ≡ length s.flushed
  pub slots : (k : ℕ) → k < length s.flushed → IsFlushed s k
      → slice_index_or i.slots k [] ≡ slice_index_or s.flushed k []
  pub blocks_len : length i.blocks ≡ length s.blocks
  pub blocks : (k : ℕ) → k < length s.blocks → IsCertain s k → block_at i.blocks k ≡ block_at s.blocks k

-- The port has one image: nothing is staged, stored or posted, and all is certain. A home write that
-- ended with an error, and whose block was written since, stays begun and leaves nothing uncertain.
pub record IsQuiescent (s : PortState) : Type 0 where
  pub flushed_end : s.flushed_end ≡ s.doorbell
  pub pending : s.pending ≡ []
  pub posted : s.posted ≡ []
  pub failed : s.failed ≡ []
  pub head : s.stored_head ≡ s.head
  pub base : s.stored_base ≡ s.base
  pub certain : (k : ℕ) → k < length s.certain → slice_index_or s.certain k false ≡ true

-- the image of a port that has one
abbrev pub image_of : PortState → PortImage
image_of s =
    record { doorbell = s.doorbell; head = s.head; base = s.base; slots = s.flushed; blocks = s.blocks }
