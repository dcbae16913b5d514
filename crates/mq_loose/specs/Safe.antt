-- The facts that every event keeps of a loose state, and what makes it safe: whatever a power cut leaves of it
-- has a set of transactions that is closed under dependence and has all that was acknowledged, and stands for
-- the map after these.
use Rattle.std.specs.Prelude.{◌≡◌, ◌⊎◌, ◌<◌, ◌≤◌, ℕ, ◌+◌, Bool, true, false, List, [], length, Some, slice_index_or}
use Rattle.mq_blocks.specs.Descriptor.{Descriptor}
use Rattle.mq_blocks.specs.Drive.{PortImage, holds_write}
use Rattle.mq_blocks.specs.Geometry.{homes_of, zone_of, home_lba}
use Rattle.mq_blocks.specs.Journal.{Shown, AreWhole, Has, is_among, shown, stands}
use Rattle.mq_ledger.specs.History.{blocks_of, changes, map_after, last, upto, of_queue, IsAt}
use Rattle.mq_ledger.specs.Items.{Entries, reading_of}
use Rattle.mq_ledger.specs.KnownJournal.{LogOk}
use Rattle.mq_ledger.specs.Sides.{SideOk, RootOk, Certainly, home_index}
use Rattle.mq_ledger.specs.State.{State, AreImages, front_of, port_at, port_of, start_map}
use Rattle.mq_ledger.specs.declared.tx.Tx.{Tx}
use Rattle.mq_loose_order.specs.Dependence.{IsClosed, deps_of, kept}
use Rattle.mq_loose_order.specs.Form.{IsLoose, loose_limit}
use Rattle.mq_loose_order.specs.Standing.{AreStanding, in_set}
use Rattle.mq_loose.specs.Guards.{entries_in, settled, side_known}

-- no transaction of the set above the number changes the block
abbrev pub NoneChanges : (ℕ → Bool) → List Tx → ℕ → ℕ → Type 0
NoneChanges S h x v =
    (t : Tx) (ts : List Tx) → IsAt t ts h → S t.number ≡ true → changes t x ≡ true → t.number ≤ v

-- all that it writes is logged, and it revokes nothing; it names few blocks
pub record IsPlain (t : Tx) : Type 0 where
  pub direct : t.direct ≡ []
  pub revoked : t.revoked ≡ []
  pub few : length t.logged + length t.freed ≤ loose_limit

-- v is one of the bases that a cut may leave
abbrev pub IsABase : State → ℕ → Type 0
IsABase s v = (v ≡ s.root.base) ⊎ (v ≡ s.root.stored_base)

-- The content of a block at a base is certainly at home, unless a settled number above the base changes the
-- block.
abbrev pub AreAtHome : State → Type 0
AreAtHome s =
    (x v : ℕ) (content : List ℕ) → x < homes_of s.geometry → IsABase s v
    → map_after (start_map s.start) (upto v s.history) x ≡ Some content
    → NoneChanges (settled s) s.history x v
    → Certainly (port_of s (zone_of s.geometry x)) (home_index s.geometry x) content

-- a home write of the block is under way
pub record IsUnder (s : State) (x : ℕ) : Type 0 where
  pub block : x < homes_of s.geometry
  pub low : s.root.stored_base < last s.base s.history x
  pub settled_is : settled s (last s.base s.history x) ≡ true
  pub logged : (t : Tx) (ts : List Tx) → IsAt t ts s.history → t.number ≡ last s.base s.history x
      → is_among x (blocks_of t.logged) ≡ true
  pub loose : slice_index_or (port_of s (zone_of s.geometry x)).certain (home_index s.geometry x) false
      ≡ false
  pub begun : holds_write (home_lba s.geometry x) (port_of s (zone_of s.geometry x)).begun ≡ true

pub record Facts (e : Entries) (s : State) : Type 0 where
  pub log : LogOk (side_known e s)
  pub plain : (t : Tx) (ts : List Tx) → IsAt t ts s.history → IsPlain t
  pub ports : length s.ports ≡ s.geometry.queues
  pub sides : (q : ℕ) → q < s.geometry.queues
      → SideOk (side_known e s) q (of_queue q s.history) (port_at s.ports q)
  pub root : RootOk (side_known e s) s.root
  pub reached : s.root.stored_base ≤ front_of s
  pub homes : AreAtHome s
  pub writing : (x : ℕ) → is_among x s.writing ≡ true → IsUnder s x
  pub acknowledged : (n : ℕ) → is_among n s.acknowledged ≡ true → settled s n ≡ true

-- Of an image: its chains are the only ones, and have descriptors of the loose order. Its set has the numbers
-- up to its base and those of the transactions that stand; it is closed under dependence and has all that was
-- acknowledged; and each block of the map after the transactions of the set stands.
pub record Recovers (s : State) (i : Shown) : Type 0 where
  pub chains : ℕ → List Descriptor
  pub whole : AreWhole s.geometry i chains
  pub unique : (others : ℕ → List Descriptor) → AreWhole s.geometry i others → (q : ℕ)
      → q < s.geometry.queues → others q ≡ chains q
  pub loose : (q : ℕ) (d : Descriptor) → q < s.geometry.queues → Has (chains q) d
      → IsLoose d (deps_of s.base s.history d.number)
  pub ds : List Descriptor
  pub standing : AreStanding (deps_of s.base s.history) s.geometry i chains ds
  pub drawn : (n : ℕ) → in_set i.base ds n ≡ true → n ≤ s.base + length s.history
  pub closed : IsClosed s.base s.history (in_set i.base ds)
  pub acknowledged : (n : ℕ) → is_among n s.acknowledged ≡ true → in_set i.base ds n ≡ true
  pub stand : (x : ℕ) (content : List ℕ) → x < homes_of s.geometry
      → map_after (start_map s.start) (kept (in_set i.base ds) s.history) x ≡ Some content
      → stands s.geometry i ds x ≡ content

-- whatever a power cut leaves
abbrev pub IsSafe : Entries → State → Type 0
IsSafe e s =
    (queues : List PortImage) (root : PortImage) → AreImages s queues root
    → Recovers s (shown (reading_of (entries_in e s)) s.geometry queues root)
