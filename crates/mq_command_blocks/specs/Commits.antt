-- How a text stands on the drive once it is committed.
use Rattle.std.specs.Prelude.{◌≡◌, ◌<◌, ◌≤◌, ℕ, ◌+◌, ◌-◌, ◌%◌, ◌^◌, true, List, [], ◌∷◌, length, Some, slice_index_or}
use Rattle.mq_nvme.specs.Says.{says, journal_reading}
use Rattle.mq_blocks.specs.Blocks.{block_at}
use Rattle.mq_blocks.specs.Limits.{depth, newest_version}
use Rattle.mq_blocks.specs.Descriptor.{Descriptor, journal_form, last_block, first_place}
use Rattle.mq_blocks.specs.Drive.{PortState, PortImage, IsImage, IsQuiescent}
use Rattle.mq_blocks.specs.Geometry.{area_lba, homes_of}
use Rattle.mq_blocks.specs.Journal.{Shown, shown, IsChain, AreInRow, Reaches, logged_copy, stands}
use Rattle.mq_blocks.specs.Machine.{Map, Writes, Transaction, write_of}
use Rattle.mq_blocks.specs.declared.geometry.Geometry.{Geometry}
use Rattle.mq_drive.specs.Start.{IsPortOf}
use Rattle.mq_drive.specs.declared.role.Role.TheVariants.{Queue, Root}
use Rattle.mq_block_trace.specs.Lines.{map_after}
use Rattle.mq_pmr.specs.Runs.{Items}
use Rattle.mq_block_text.specs.Text.{block_of}
use Rattle.mq_block_text.specs.declared.item.BlockItem.{BlockItem}

-- the entry before the head, where there is one, is a commit request whose number the base covers
abbrev pub StartsBelow : ℕ → PortState → Type 0
StartsBelow base s =
    0 < s.head
    → (number : ℕ) × (lba : ℕ) × (number ≤ base)
    × (says (slice_index_or s.flushed ((s.head - 1) % depth) []) ≡ Some (number, lba, true))

-- the queue's port of a clean drive of one queue with base 0
pub record IsCleanQueue (g : Geometry) (queue : PortState) : Type 0 where
  pub one : g.queues ≡ 1
  pub port : IsPortOf g (Queue 0) queue
  pub quiet : IsQuiescent queue
  pub done : queue.head ≡ queue.doorbell
  pub low : queue.doorbell ≤ 2 ^ 62
  pub before : StartsBelow 0 queue

-- a clean drive of one queue with base 0
pub record IsClean (g : Geometry) (queue root : PortState) : Type 0 where
  pub queue_clean : IsCleanQueue g queue
  pub root_port : IsPortOf g Root root
  pub root_quiet : IsQuiescent root
  pub base : root.base ≡ 0

-- no item names a block from this one on
abbrev pub AreBelow : ℕ → List BlockItem → Type 0
AreBelow homes [] = Unit {0}
AreBelow homes (i ∷ is) = (block_of i < homes) × AreBelow homes is

abbrev pub AllBelow : ℕ → List (List BlockItem) → Type 0
AllBelow homes [] = Unit {0}
AllBelow homes (l ∷ ls) = AreBelow homes l × AllBelow homes ls

-- An image of a drive of one queue with base 0 reaches so many transactions, with the content of
-- this map on its blocks.
pub record ShowsMap (g : Geometry) (i : Shown) (prefix : ℕ) (m : Map) : Type 0 where
  pub ds : List Descriptor
  pub base : i.base ≡ 0
  pub reaches : Reaches g i ds
  pub prefix_is : length ds ≡ prefix
  pub blocks : (b : ℕ) (v : List ℕ) → b < homes_of g → m b ≡ Some v → stands g i ds b ≡ v

-- each image of the two ports shows the lines and their map
abbrev pub ShowsLines : Geometry → PortState → PortState → List (List BlockItem) → ℕ → Type 0
ShowsLines g queue root lines n =
    (q r : PortImage) → IsImage queue q → IsImage root r
    → ShowsMap g (shown journal_reading g (q ∷ []) r) n (map_after lines n)

-- ---- the next transaction of a queue

abbrev pub blocks_in : Writes → List ℕ
blocks_in [] = []
blocks_in (w ∷ ws) = w.0 ∷ blocks_in ws

-- the copies alone, from a place on
abbrev pub copies_from : Geometry → ℕ → Writes → Items
copies_from g place [] = []
copies_from g place (w ∷ ws) = (area_lba g 0 place, w.1) ∷ copies_from g (place + 1) ws

-- the copies from a place on, and then the descriptor's block
abbrev pub items_from : Geometry → ℕ → List ℕ → Writes → Items
items_from g place block [] = (area_lba g 0 place, block) ∷ []
items_from g place block (w ∷ ws) = (area_lba g 0 place, w.1) ∷ items_from g (place + 1) block ws

-- the descriptor of a transaction that begins at a place, after the one at `last`
abbrev pub descriptor_for : (number next last : ℕ) → Writes → Descriptor
descriptor_for number next last ws = record {
  queue = 0;
  number = number;
  place = next + length ws;
  prev_place = last;
  prev_number = number - 1;
  logged = blocks_in ws;
  revoked = [];
}

abbrev pub items_of : Geometry → (number next last : ℕ) → Writes → Items
items_of g number next last ws =
    items_from g next (last_block journal_form newest_version (descriptor_for number next last ws)) ws

-- ---- what stands after some transactions

-- the image is one of the journal and has this base, and the port's blocks in its area up to a place
pub record Agrees (next : ℕ) (s : PortState) (i : Shown) : Type 0 where
  pub form : i.form ≡ journal_form
  pub base : i.base ≡ 0
  pub area : (k : ℕ) → k < next → i.area 0 k ≡ block_at s.blocks k

-- the copies that a descriptor names are what its transaction writes
pub record Carries (g : Geometry) (i : Shown) (d : Descriptor) (t : Transaction) : Type 0 where
  pub copies : (b : ℕ)
      → logged_copy (i.area d.queue) g.area (first_place d) d.logged b ≡ write_of t.writes b
  pub revoked : d.revoked ≡ []

abbrev pub AllCarry : Geometry → Shown → List Descriptor → List Transaction → Type 0
AllCarry g i [] [] = Unit {0}
AllCarry g i [] (t ∷ ts) = ⊥
AllCarry g i (d ∷ ds) [] = ⊥
AllCarry g i (d ∷ ds) (t ∷ ts) = Carries g i d t × AllCarry g i ds ts

-- A quiet port that has these transactions, the last at a place; the places from `next` on are free.
pub record Keeps (g : Geometry) (s : PortState) (next place : ℕ) (ds : List Descriptor)
    (ts : List Transaction) : Type 0 where
  pub quiet : IsQuiescent s
  pub port : IsPortOf g (Queue 0) s
  pub done : s.head ≡ s.doorbell
  pub chain : (i : Shown) → Agrees next s i → IsChain g i 0 (length ds) place ds
  pub carry : (i : Shown) → Agrees next s i → AllCarry g i ds ts
  pub row : AreInRow 0 ds
  pub none : s.head ≡ 0 → length ds ≡ 0
  pub newest : 0 < s.head
      → (lba : ℕ)
      × (says (slice_index_or s.flushed ((s.head - 1) % depth) []) ≡ Some (length ds, lba, true))
      × (0 < length ds → lba ≡ area_lba g 0 place)
  pub below : 0 < length ds → place < next
  pub first : length ds ≡ 0 → place ≡ 0
