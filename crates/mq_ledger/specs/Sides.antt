-- What holds of a port, by the history and by what is known to be done and to be kept at home.
use Rattle.std.specs.Prelude.{◌≡◌, ◌<◌, ◌≤◌, ℕ, ◌+◌, ◌-◌, ◌*◌, ◌%◌, ◌^◌, Bool, true, false, List, [], ◌∷◌, Option, Some, None, nat_eq, slice_index_or, if◌then◌else◌}
use Rattle.mq_blocks.specs.Blocks.{block_at}
use Rattle.mq_blocks.specs.Descriptor.{DescriptorForm}
use Rattle.mq_blocks.specs.Limits.{depth, usable_depth}
use Rattle.mq_blocks.specs.Drive.{PortState, IsCertain, IsFlushed, AreFrom, AreCounted, staged_end}
use Rattle.mq_blocks.specs.Geometry.{homes_of, zone_of}
use Rattle.mq_blocks.specs.Journal.{number_limit}
use Rattle.mq_blocks.specs.Ports.{IsPort}
use Rattle.mq_blocks.specs.declared.command.Command.{Command}
use Rattle.mq_blocks.specs.declared.geometry.Geometry.{Geometry}
use Rattle.mq_ledger.specs.History.{writes, map_after, last, upto, of_queue, IsAt, IsPart}
use Rattle.mq_ledger.specs.Items.{AtPlace, AtHome, bytes_of, said_of, command_of, end_of, next, item_at, IsEnd, descriptor_blocks}
use Rattle.mq_ledger.specs.KnownJournal.{KnownJournal, front}
use Rattle.mq_ledger.specs.declared.tx.Tx.{Tx}

-- ---- the blocks of a port

-- where a place of a queue, and a home block, stands among the blocks of its port
abbrev pub place_index : Geometry → ℕ → ℕ
place_index g place = place % g.area

abbrev pub home_index_in : Geometry → Option ℕ → ℕ → ℕ
home_index_in g (Some q) x = g.area + (x - (g.meta + q * g.zone))
home_index_in g None x = x

abbrev pub home_index : Geometry → ℕ → ℕ
home_index g x = home_index_in g (zone_of g x) x

-- each image of the port has this content there
pub record Certainly (p : PortState) (k : ℕ) (v : List ℕ) : Type 0 where
  pub certain : IsCertain p k
  pub is : block_at p.blocks k ≡ v

-- ---- the ring of a queue

abbrev pub flushed_at : PortState → ℕ → List ℕ
flushed_at p c = slice_index_or p.flushed (c % depth) []

abbrev pub staged_at : PortState → ℕ → List ℕ
staged_at p c = slice_index_or p.staged (c % depth) []

pub record AreOrdered (from end : ℕ) (p : PortState) : Type 0 where
  pub head_low : from ≤ p.head
  pub stored : p.head ≤ p.stored_head
  pub rung : p.stored_head ≤ p.doorbell
  pub flushed : p.doorbell ≤ p.flushed_end
  pub staged : p.flushed_end ≤ staged_end p
  pub drawn : staged_end p ≤ end
  pub room : end ≤ p.head + usable_depth

-- heads and doorbell stand at ends of transactions
pub record AreEnds (from : ℕ) (txs : List Tx) (p : PortState) : Type 0 where
  pub head : IsEnd from txs p.head
  pub stored : IsEnd from txs p.stored_head
  pub doorbell : IsEnd from txs p.doorbell

-- What was rung stands in the ring as it was flushed, from the slot before the head on, and what was
-- staged since as it was staged. While the head is where it was at the start, the slot before it has
-- a commit request of a number up to the base.
pub record IsRing (k : KnownJournal) (q : ℕ) (txs : List Tx) (p : PortState) : Type 0 where
  pub settled : (n : ℕ) → IsFlushed p n → slice_index_or p.staged n [] ≡ slice_index_or p.flushed n []
  pub start : 0 < k.from q → p.head ≡ k.from q
      → (n : ℕ) × (lba : ℕ) × (k.entries.says (flushed_at p (k.from q - 1)) ≡ Some (n, lba, true))
      × (n ≤ k.base)
  pub rung : (c : ℕ) → k.from q ≤ c → p.head ≤ c + 1 → c < p.doorbell
      → k.entries.says (flushed_at p c) ≡ Some (said_of k.geometry q (item_at (k.from q) txs c))
  pub waits : (c : ℕ) → p.doorbell ≤ c → c < staged_end p
      → k.entries.says (staged_at p c) ≡ Some (said_of k.geometry q (item_at (k.from q) txs c))

-- ---- its commands

-- each is the write of its count's entry
abbrev pub AreOwn : DescriptorForm → Geometry → ℕ → ℕ → List Tx → List Command → Type 0
AreOwn form g q from txs [] = Unit {0}
AreOwn form g q from txs (c ∷ cs) =
    (c ≡ command_of form g q c.count (item_at from txs c.count)) × AreOwn form g q from txs cs

-- their counts follow one another from this one on
abbrev pub AreNext : ℕ → List Command → Type 0
AreNext n [] = Unit {0}
AreNext n (c ∷ cs) = (c.count ≡ n) × AreNext (n + 1) cs

abbrev pub holds_count : ℕ → List Command → Bool
holds_count n [] = false
holds_count n (c ∷ cs) = if nat_eq c.count n then true else holds_count n cs

-- Staged commands wait for the ring; no command below the stored head is posted or failed, so all of
-- them are completed with success.
pub record AreCommands (form : DescriptorForm) (g : Geometry) (q from : ℕ) (txs : List Tx)
    (p : PortState) : Type 0 where
  pub pending : AreOwn form g q from txs p.pending
  pub pending_counts : AreNext p.doorbell p.pending
  pub posted : AreOwn form g q from txs p.posted
  pub posted_counts : AreCounted p.stored_head p.doorbell p.posted
  pub failed : AreOwn form g q from txs p.failed
  pub failed_counts : AreFrom p.stored_head p.failed

-- a rung command has completed with success
pub record IsDone (p : PortState) (c : ℕ) : Type 0 where
  pub rung : c < p.doorbell
  pub posted : holds_count c p.posted ≡ false
  pub failed : holds_count c p.failed ≡ false

-- ---- its blocks

-- the places of the transactions above the base are apart in the area, and each that was written holds
-- what was written
pub record IsArea (k : KnownJournal) (q : ℕ) (txs : List Tx) (p : PortState) : Type 0 where
  pub fits : next txs ≤ next (upto k.word txs) + k.geometry.area
  pub limit : next txs ≤ 2 ^ 62
  pub holds : (c place : ℕ) → end_of (k.from q) (upto k.word txs) ≤ c → IsDone p c
      → (item_at (k.from q) txs c).target ≡ AtPlace place
      → Certainly p (place_index k.geometry place)
      (bytes_of k.entries.form (item_at (k.from q) txs c).content)

-- the content is at home, unless a number above v and up to the front changed the block
abbrev pub IsKept : KnownJournal → PortState → ℕ → ℕ → List ℕ → Type 0
IsKept k p x v content =
    last k.base (upto (front k) k.history) x ≤ v → Certainly p (home_index k.geometry x) content

-- the home blocks of a port whose contents are due
abbrev pub AreHome : KnownJournal → Option ℕ → PortState → Type 0
AreHome k z p =
    (x v : ℕ) (content : List ℕ) → x < homes_of k.geometry → zone_of k.geometry x ≡ z → k.due x v ≡ true
    → map_after k.start (upto v k.history) x ≡ Some content → IsKept k p x v content

-- The port of the queue q, where its entries are those of `txs`: of all its transactions, or of those
-- before some newer ones.
pub record SideOk (k : KnownJournal) (q : ℕ) (txs : List Tx) (p : PortState) : Type 0 where
  pub queue : q < k.geometry.queues
  pub part : IsPart txs (of_queue q k.history)
  pub port : IsPort k.geometry (Some q) p
  pub order : AreOrdered (k.from q) (end_of (k.from q) txs) p
  pub limit : end_of (k.from q) txs ≤ number_limit
  pub ends : AreEnds (k.from q) txs p
  pub ring : IsRing k q txs p
  pub commands : AreCommands k.entries.form k.geometry q (k.from q) txs p
  pub area : IsArea k q txs p
  -- what the base covers stands below the head
  pub based : end_of (k.from q) (upto k.word txs) ≤ p.head
  -- what is known to be done stands below the head
  pub done : (t : Tx) (ts : List Tx) → IsAt t ts k.history → t.queue ≡ q → k.done t ts ≡ true
      → end_of (k.from q) (of_queue q ts) + (writes t + descriptor_blocks t) ≤ p.head
  -- each completed direct write is at home
  pub direct : (c x : ℕ) → k.from q ≤ c → IsDone p c → (item_at (k.from q) txs c).target ≡ AtHome x
      → IsKept k p x (item_at (k.from q) txs c).number
      (bytes_of k.entries.form (item_at (k.from q) txs c).content)
  pub homes : AreHome k (Some q) p

-- the root's port: the base word as flushed and as stored, and the metadata region
pub record RootOk (k : KnownJournal) (p : PortState) : Type 0 where
  pub port : IsPort k.geometry None p
  pub posted : p.posted ≡ []
  pub bases : (k.word ≤ p.base) × (p.base ≤ p.stored_base)
  pub homes : AreHome k None p
