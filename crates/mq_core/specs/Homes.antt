-- A home block's port, among the queues' ports and the root's, and which blocks may be written home.
use Rattle.std.specs.Prelude.{◌≡◌, ◌<◌, ◌≤◌, ℕ, true, List, Option, Some, None, length, slice_set}
use Rattle.mq_blocks.specs.Drive.{PortState}
use Rattle.mq_blocks.specs.Geometry.{zone_of, home_lba}
use Rattle.mq_blocks.specs.Journal.{is_among}
use Rattle.mq_blocks.specs.declared.geometry.Geometry.{Geometry}
use Rattle.mq_ledger.specs.History.{blocks_of, last, IsAt}
use Rattle.mq_ledger.specs.KnownJournal.{KnownJournal, front}
use Rattle.mq_ledger.specs.State.{port_at}
use Rattle.mq_ledger.specs.declared.tx.Tx.{Tx}
use Rattle.mq_core.specs.Within.{IsWithin}

-- the ports, where this happens to one of them
abbrev pub ports_after : (PortState → PortState) → Option ℕ → List PortState → List PortState
ports_after after (Some q) ports = slice_set ports q (after (port_at ports q))
ports_after after None ports = ports

abbrev pub root_after : (PortState → PortState) → Option ℕ → PortState → PortState
root_after after (Some q) root = root
root_after after None root = after root

-- the zone's port, or the root's, is there and has this block
abbrev pub IsInZone : Option ℕ → ℕ → List PortState → PortState → Type 0
IsInZone (Some q) lba ports root = (q < length ports) × IsWithin (port_at ports q) lba
IsInZone None lba ports root = IsWithin root lba

abbrev pub IsIn : Geometry → ℕ → List PortState → PortState → Type 0
IsIn g x ports root = IsInZone (zone_of g x) (home_lba g x) ports root

-- the block's last change logged it, is done, and is above each number whose content is due
pub record IsLoggedLast (k : KnownJournal) (x : ℕ) : Type 0 where
  pub due : (v : ℕ) → k.due x v ≡ true → v < last k.base k.history x
  pub high : last k.base k.history x ≤ front k
  pub logged : (t : Tx) (ts : List Tx) → IsAt t ts k.history → t.number ≡ last k.base k.history x
      → is_among x (blocks_of t.logged) ≡ true
