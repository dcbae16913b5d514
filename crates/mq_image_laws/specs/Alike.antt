-- Drives that recovery can't tell apart.
use Rattle.std.specs.Prelude.{◌≡◌, ◌<◌, ◌≤◌, ℕ, ◌+◌, List}
use Rattle.mq_blocks.specs.Descriptor.{Descriptor}
use Rattle.mq_blocks.specs.Drive.{PortState}
use Rattle.mq_blocks.specs.Geometry.{homes_of}
use Rattle.mq_blocks.specs.Journal.{AreWhole, Has, stands}
use Rattle.mq_blocks.specs.declared.geometry.Geometry.{Geometry}
use Rattle.mq_ledger.specs.State.{port_at}
use Rattle.mq_recover.specs.Drives.{DriveState, view_over}
use Rattle.mq_recover.specs.Images.{RefusesImage}
use Rattle.mq_recover.specs.Recovery.{IsReadPrefix}
use Rattle.mq_recover.specs.Refusals.{entry_at}
use Rattle.mq_recover.specs.declared.refusal.ImageFault.{ImageFault}

-- The ports of a queue agree in its words, its blocks and the entries that recovery reads: those of the
-- counts from the one before the head on, below the doorbell. What stands in the other slots may differ.
pub record IsQueueAlike (p r : PortState) : Type 0 where
  pub head : p.head ≡ r.head
  pub doorbell : p.doorbell ≡ r.doorbell
  pub blocks : p.blocks ≡ r.blocks
  pub entries : (c : ℕ) → p.head ≤ c + 1 → c < p.doorbell → entry_at p c ≡ entry_at r c

-- the ports of two drives do, and those of the roots agree in the base and in the blocks
pub record AreAlike (g : Geometry) (d e : DriveState) : Type 0 where
  pub queues : (q : ℕ) → q < g.queues → IsQueueAlike (port_at d.queues q) (port_at e.queues q)
  pub base : d.root.base ≡ e.root.base
  pub blocks : d.root.blocks ≡ e.root.blocks

-- ---- what then is the same

-- the same transactions are whole
abbrev pub AlikeDrivesAreWholeAlike : Type 0
AlikeDrivesAreWholeAlike =
    (g : Geometry) (d e : DriveState) (chains : ℕ → List Descriptor)
    → AreAlike g d e
    → AreWhole g (view_over g d) chains
    → AreWhole g (view_over g e) chains

-- the same prefix and the same greatest number are read
abbrev pub AlikeDrivesAreReadAlike : Type 0
AlikeDrivesAreReadAlike =
    (g : Geometry) (d e : DriveState) (ds : List Descriptor) (top : ℕ)
    → AreAlike g d e
    → IsReadPrefix g (view_over g d) ds top
    → IsReadPrefix g (view_over g e) ds top

-- the same stands on each home block, by descriptors of the drive's queues
abbrev pub AlikeDrivesStandAlike : Type 0
AlikeDrivesStandAlike =
    (g : Geometry) (d e : DriveState) (ds : List Descriptor) (b : ℕ)
    → AreAlike g d e
    → ((t : Descriptor) → Has ds t → t.queue < g.queues)
    → b < homes_of g
    → stands g (view_over g d) ds b ≡ stands g (view_over g e) ds b

-- and where the one is not readable, the other is not, for the same first cause
abbrev pub AlikeDrivesAreRefusedAlike : Type 0
AlikeDrivesAreRefusedAlike =
    (g : Geometry) (d e : DriveState) (cause : ImageFault)
    → AreAlike g d e
    → RefusesImage g d cause
    → RefusesImage g e cause
