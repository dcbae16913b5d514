-- A file system at its opening: over which ports it may be opened, and what its desk and its sessions are
-- then.
use Rattle.std.specs.Prelude.{◌≡◌, ℕ, List, length, Option}
use Rattle.mq_blocks.specs.Drive.{PortState}
use Rattle.mq_blocks.specs.Geometry.{homes_of}
use Rattle.mq_blocks.specs.declared.geometry.Geometry.{Geometry}
use Rattle.mq_drive.specs.Steps.{PortFault}
use Rattle.mq_drive.specs.declared.port.Port.{Ghosts}
use Rattle.mq_drive.specs.declared.port.Ports.{Ports}
use Rattle.mq_calls.specs.Group.{CarriesVolume, file_group}
use Rattle.mq_calls.specs.declared.entry.FileEntry.{FileEntry}
use Rattle.mq_journal.specs.Numbers.{Seat, Start}
use Rattle.mq_ledger.specs.State.{IsStart}
use Rattle.mq_ledger.specs.Written.{journal_entries}
use Rattle.mq_pages.specs.Held.{HeldCells}
use Rattle.mq_pages.specs.declared.page.PageCell.{PageCell}
use Rattle.mq_recover.specs.Drives.{DriveState}
use Rattle.mq_recover.specs.Recovery.{started}
use Rattle.mq_recover.specs.declared.standing.Standing.{Standing}
use Rattle.mq_sessions.specs.Opening as opening
use Rattle.mq_sessions.specs.Opening.{listed}
use Rattle.mq_tree.specs.Laid.{map_of}
pub use Rattle.mq_sessions.specs.Seats.{IsEquipped, IsUncalled}

-- ---- what stands on the drive

-- the map of stored home blocks, as a list
abbrev pub stored_map : Geometry → List (Option (List ℕ)) → List (Option (List ℕ))
stored_map g stored = listed g (map_of g stored)

-- The ports are a start of the machine over the map of these blocks, on which some volume lies; their base
-- is the standing's. So each block of the map stands at home.
pub record MayOpen (g : Geometry) (d : DriveState) (s : Standing) : Type 0 where
  pub whole : length s.blocks.items ≡ homes_of g
  pub base : s.base ≡ d.root.base
  pub start : IsStart journal_entries (started g d (stored_map g s.blocks.items))
  pub mounts : CarriesVolume g (map_of g s.blocks.items)

-- ---- what is made of it

-- the cells of all home blocks
abbrev pub first_cells : Geometry → List (Option (List ℕ)) → ℕ → List PageCell
first_cells g stored base = opening.first_cells g (map_of g stored) base

module _ {P : Type 0} {G : Ghosts P} (state : P → PortState) (faults : P → List PortFault) where
  -- What a desk was opened with over these ports: the map in its cells, and the ports, each where it was.
  abbrev pub IsOpenedOver : Geometry → Ports P → Standing → Start P FileEntry G → Type 0
  IsOpenedOver g ports s o = opening.IsOpenedOver state faults file_group g (map_of g s.blocks.items) ports s o

module _ {P : Type 0} {G : Ghosts P} where
  -- a session that has made no call
  abbrev pub IsNewSession : Geometry → Start P FileEntry G → (i queue calls : ℕ) → (wanted : List ℕ)
      → HeldCells → Seat P FileEntry G → Type 0
  IsNewSession g o i queue calls wanted cells v =
      opening.IsNewSession file_group g o i queue calls wanted cells v
