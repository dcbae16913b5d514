-- The state of the machine, the facts that each event keeps, and what makes a state safe: whatever a
-- power cut leaves of it is readable, and stands for the map after a prefix of the history that has
-- all that was acknowledged.
use Rattle.std.specs.Prelude.{◌≡◌, ◌<◌, ◌≤◌, ℕ, ◌+◌, ◌-◌, ◌^◌, Bool, true, false, ◌||◌, List, [], length, Option, Some, None, nat_eq, nat_le, slice_index_or}
use Rattle.mq_blocks.specs.Descriptor.{Descriptor, IsSound}
use Rattle.mq_blocks.specs.Drive.{no_fuse, PortState, PortImage, IsImage, holds_write}
use Rattle.mq_blocks.specs.Geometry.{homes_of, zone_of, home_lba}
use Rattle.mq_blocks.specs.Journal.{Shown, AreWhole, IsPrefix, is_among, image_at, shown, stands, number_limit}
use Rattle.mq_blocks.specs.Machine.{Map}
use Rattle.mq_blocks.specs.Ports.{IsPort}
use Rattle.mq_blocks.specs.declared.geometry.Geometry.{Geometry}
use Rattle.mq_ledger.specs.History.{writes, blocks_of, map_after, last, upto, of_queue, IsAt}
use Rattle.mq_ledger.specs.Items.{Entries, AreRead, AtHome, end_of, item_at, descriptor_blocks, reading_of}
use Rattle.mq_ledger.specs.KnownJournal.{KnownJournal, LogOk}
use Rattle.mq_ledger.specs.Sides.{SideOk, holds_count, RootOk, AreHome, flushed_at, home_index}
use Rattle.mq_ledger.specs.declared.tx.Tx.{Tx}

pub record State : Type 0 where
  pub geometry : Geometry
  -- the map and the base at the start, and the doorbell of each queue there
  pub start : List (Option (List ℕ))
  pub base : ℕ
  pub starts : List ℕ
  pub history : List Tx
  pub ports : List PortState
  pub root : PortState
  -- each queue's low mark: its numbers that aren't done are at or above it
  pub marks : List ℕ
  -- the home blocks with a home write under way. Of the home writes that have begun and not ended in
  -- their port's state, those of other blocks count as ended with an error.
  pub writing : List ℕ
  pub acknowledged : List ℕ

abbrev pub no_port : PortState
no_port = record {
  queue = None;
  area_first = 0;
  area_size = 0;
  homes_first = 0;
  homes_size = 0;
  flushed = [];
  staged = [];
  flushed_end = 0;
  pending = [];
  doorbell = 0;
  posted = [];
  failed = [];
  head = 0;
  stored_head = 0;
  base = 0;
  stored_base = 0;
  blocks = [];
  certain = [];
  begun = [];
  rings = 0;
  begins = 0;
  events = 0;
  fuse = no_fuse;
  fail = None;
}

abbrev pub port_at : List PortState → ℕ → PortState
port_at ports q = slice_index_or ports q no_port

-- a queue's port, or the root's
abbrev pub port_of : State → Option ℕ → PortState
port_of s (Some q) = port_at s.ports q
port_of s None = s.root

abbrev pub start_map : List (Option (List ℕ)) → Map
start_map start x = slice_index_or start x None

abbrev pub from_at : List ℕ → ℕ → ℕ
from_at starts q = slice_index_or starts q 0

-- the flushed head is past the transaction, where these stand before it
abbrev pub is_done : List ℕ → List PortState → Tx → List Tx → Bool
is_done starts ports t ts =
    nat_le (end_of (from_at starts t.queue) (of_queue t.queue ts) + (writes t + descriptor_blocks t))
    (port_at ports t.queue).head

-- What is done is what the flushed heads say, and the whole map is due at the flushed and at the
-- stored base.
abbrev pub known_of : Entries → State → KnownJournal
known_of e s = record {
  geometry = s.geometry;
  entries = e;
  start = start_map s.start;
  base = s.base;
  from = from_at s.starts;
  history = s.history;
  done = is_done s.starts s.ports;
  due = λ x v. nat_eq v s.root.base || nat_eq v s.root.stored_base;
  word = s.root.base;
}

abbrev pub front_of : State → ℕ
front_of s = s.base + length (Rattle.mq_ledger.specs.History.part_of (is_done s.starts s.ports) s.history)

-- A home write of the block is under way: its last change logged it, is done and is above the stored
-- base, and the block is uncertain.
pub record IsUnder (s : State) (x : ℕ) : Type 0 where
  pub block : x < homes_of s.geometry
  pub low : s.root.stored_base < last s.base s.history x
  pub high : last s.base s.history x ≤ front_of s
  pub logged : (t : Tx) (ts : List Tx) → IsAt t ts s.history → t.number ≡ last s.base s.history x
      → is_among x (blocks_of t.logged) ≡ true
  pub loose : slice_index_or (port_of s (zone_of s.geometry x)).certain (home_index s.geometry x) false
      ≡ false
  pub begun : holds_write (home_lba s.geometry x) (port_of s (zone_of s.geometry x)).begun ≡ true

pub record Facts (e : Entries) (s : State) : Type 0 where
  pub form : IsSound e.form
  pub log : LogOk (known_of e s)
  pub ports : length s.ports ≡ s.geometry.queues
  pub marked : length s.marks ≡ s.geometry.queues
  pub sides : (q : ℕ) → q < s.geometry.queues
      → SideOk (known_of e s) q (of_queue q s.history) (port_at s.ports q)
  pub root : RootOk (known_of e s) s.root
  -- each number that isn't done is at or above its queue's mark
  pub marks : (t : Tx) (ts : List Tx) → IsAt t ts s.history → is_done s.starts s.ports t ts ≡ false
      → slice_index_or s.marks t.queue 0 ≤ t.number
  pub writing : (x : ℕ) → is_among x s.writing ≡ true → IsUnder s x
  pub acknowledged : (n : ℕ) → is_among n s.acknowledged ≡ true → n ≤ front_of s

-- ---- safe

-- An image is readable, so it is rung whole and has no number twice; its chains are the only ones. It
-- reaches a number from the front on, and each block of the map after this number stands.
pub record Recovers (s : State) (i : Shown) : Type 0 where
  pub chains : ℕ → List Descriptor
  pub whole : AreWhole s.geometry i chains
  pub unique : (others : ℕ → List Descriptor) → AreWhole s.geometry i others → (q : ℕ)
      → q < s.geometry.queues → others q ≡ chains q
  pub ds : List Descriptor
  pub prefix : IsPrefix s.geometry i chains ds
  pub least : front_of s ≤ i.base + length ds
  pub most : i.base + length ds ≤ s.base + length s.history
  pub stand : (x : ℕ) (content : List ℕ) → x < homes_of s.geometry
      → map_after (start_map s.start) (upto (i.base + length ds) s.history) x ≡ Some content
      → stands s.geometry i ds x ≡ content

-- this is what a power cut may leave of the drive
pub record AreImages (s : State) (queues : List PortImage) (root : PortImage) : Type 0 where
  pub each : (q : ℕ) → q < s.geometry.queues → IsImage (port_at s.ports q) (image_at queues q)
  pub root_is : IsImage s.root root

pub record IsSafe (e : Entries) (s : State) : Type 0 where
  pub images : (queues : List PortImage) (root : PortImage) → AreImages s queues root
      → Recovers s (shown (reading_of e) s.geometry queues root)
  pub acknowledged : (n : ℕ) → is_among n s.acknowledged ≡ true → n ≤ front_of s

-- at most one direct write of a block is posted
abbrev pub IsPostedOnce : State → Type 0
IsPostedOnce s =
    (q c d x : ℕ) → q < s.geometry.queues → holds_count c (port_at s.ports q).posted ≡ true
    → holds_count d (port_at s.ports q).posted ≡ true
    → (item_at (from_at s.starts q) (of_queue q s.history) c).target ≡ AtHome x
    → (item_at (from_at s.starts q) (of_queue q s.history) d).target ≡ AtHome x → c ≡ d

pub record IsLawful (e : Entries) (s : State) : Type 0 where
  pub safe : IsSafe e s
  pub facts : Facts e s
  pub once : IsPostedOnce s

-- ---- where it starts

-- Nothing is staged, posted or failed, head and doorbell are equal, and all home blocks hold the
-- start map.
pub record IsStartPort (e : Entries) (s : State) (z : Option ℕ) (from : ℕ) (p : PortState) : Type 0 where
  pub port : IsPort s.geometry z p
  pub doorbell : p.doorbell ≡ from
  pub head : p.head ≡ from
  pub stored_head : p.stored_head ≡ from
  pub flushed_end : p.flushed_end ≡ from
  pub pending : p.pending ≡ []
  pub posted : p.posted ≡ []
  pub failed : p.failed ≡ []
  pub staged : p.staged ≡ p.flushed
  pub low : from ≤ number_limit
  -- the entry before a doorbell above 0 is a commit request of a number that is shown
  pub newest : 0 < from
      → (n : ℕ) × (lba : ℕ) × (e.says (flushed_at p (from - 1)) ≡ Some (n, lba, true)) × (n ≤ s.base)
  pub homes : AreHome (known_of e s) z p

pub record IsStart (e : Entries) (s : State) : Type 0 where
  pub entries : AreRead e
  pub form : IsSound e.form
  pub history : s.history ≡ []
  pub low : s.base ≤ number_limit
  pub base : s.root.base ≡ s.base
  pub stored_base : s.root.stored_base ≡ s.base
  pub start : length s.start ≡ homes_of s.geometry
  pub ports : length s.ports ≡ s.geometry.queues
  pub marked : length s.marks ≡ s.geometry.queues
  pub marks : (q : ℕ) → q < s.geometry.queues → slice_index_or s.marks q 0 ≡ 2 ^ 64 - 1
  pub writing : s.writing ≡ []
  pub acknowledged : s.acknowledged ≡ []
  pub each : (q : ℕ) → q < s.geometry.queues
      → IsStartPort e s (Some q) (from_at s.starts q) (port_at s.ports q)
  pub root : IsStartPort e s None 0 s.root
