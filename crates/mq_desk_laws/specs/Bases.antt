-- What makes a number a base: each block of the map after it is at home, or a later number that is done
-- changed it. This is said by the history, by what is known to be done, and by the contents that are known
-- to be kept at home, and by no port. So a number stays a base while others hold the ports.
use Rattle.std.specs.Prelude.{◌≡◌, ◌⊎◌, ◌<◌, ◌≤◌, ℕ, true, List, Some}
use Rattle.mq_blocks.specs.Drive.{PortState}
use Rattle.mq_blocks.specs.Geometry.{homes_of}
use Rattle.mq_blocks.specs.Journal.{is_among}
use Rattle.mq_ledger.specs.History.{blocks_of, map_after, last, upto, IsAt}
use Rattle.mq_ledger.specs.KnownJournal.{KnownJournal, front}
use Rattle.mq_ledger.specs.Sides.{RootOk}
use Rattle.mq_ledger.specs.declared.tx.Tx.{Tx}

-- the transaction of this number wrote the block directly
pub record WroteDirectly (h : List Tx) (x n : ℕ) : Type 0 where
  pub tx : Tx
  pub before : List Tx
  pub at : IsAt tx before h
  pub number : tx.number ≡ n
  pub among : is_among x (blocks_of tx.direct) ≡ true

-- Of some number it is known that the block's content after it is kept at home, and from the block's last
-- change up to the base on up to this number nothing else changed the block.
pub record IsKeptAtHome (k : KnownJournal) (b x : ℕ) : Type 0 where
  pub number : ℕ
  pub due : k.due x number ≡ true
  pub low : last k.base (upto b k.history) x ≤ number
  pub same : last k.base (upto number k.history) x ≡ last k.base (upto b k.history) x

-- The block's content after the base is kept at home, or was written directly, or a number above the base
-- and up to the front changed the block.
abbrev pub IsAtHome : KnownJournal → ℕ → ℕ → Type 0
IsAtHome k b x =
    IsKeptAtHome k b x
    ⊎ (WroteDirectly k.history x (last k.base (upto b k.history) x)
    ⊎ (b < last k.base (upto (front k) k.history) x))

-- the blocks below n that are in the map after the base
abbrev pub AreAtHome : KnownJournal → ℕ → ℕ → Type 0
AreAtHome k b n =
    (x : ℕ) (content : List ℕ)
    → x < n
    → map_after k.start (upto b k.history) x ≡ Some content
    → IsAtHome k b x

-- the number is a base: it is from the first base up to the front, and all home blocks of the map after it
-- are at home
pub record BaseOk (k : KnownJournal) (b : ℕ) : Type 0 where
  pub low : k.base ≤ b
  pub reached : b ≤ front k
  pub home : AreAtHome k b (homes_of k.geometry)

-- the root's port, whose flushed and stored base are bases
pub record RootStands (k : KnownJournal) (p : PortState) : Type 0 where
  pub port : RootOk k p
  pub flushed : BaseOk k p.base
  pub stored : BaseOk k p.stored_base
