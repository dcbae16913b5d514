-- Files of version 1 by their own rules, in which the entry of a count is in the slot of its rest by 1,024.
use Rattle.std.specs.Prelude.{◌≡◌, ◌↔◌, ℕ, List, [], ◌∷◌, ◌++◌, Option, map}
use Rattle.mq_blocks.specs.Descriptor.{Descriptor}
use Rattle.mq_blocks.specs.Drive.{PortImage}
use Rattle.mq_blocks.specs.Journal.{AreWhole}
use Rattle.mq_image.specs.Drives.{IsOldFile, IsRead}
use Rattle.mq_image.specs.File.{DriveImage, root_port}
use Rattle.mq_image_ops.specs.Standing.{AreStanding, Reads, RefusesDrive}
use Rattle.mq_image_ops.specs.Views.{view_of}
use Rattle.mq_recover.specs.declared.refusal.ImageFault.{ImageFault}

-- A ring of 1,024 slots four times in a row: what is in the slot of a count by 4,096 is what is in its slot
-- by 1,024.
unfoldable pub unrolled_slots : List (List ℕ) → List (List ℕ)
unrolled_slots slots = slots ++ (slots ++ (slots ++ slots))

abbrev pub unrolled : PortImage → PortImage
unrolled p = record p { slots = unrolled_slots p.slots }

-- The image by the rules of version 1, of which these are the queues' ports. There are at most 1,023 entries
-- from each head to its doorbell, as `IsOldPort` says.
abbrev pub by_old_rules : DriveImage → List PortImage → DriveImage
by_old_rules x old = record { geometry = x.geometry; ports = map unrolled old ++ root_port x ∷ [] }

-- ---- what is read from the file of version 1, and what it is by its own rules

-- the same transactions are whole
abbrev pub OldFilesAreWholeAsBefore : Type 0
OldFilesAreWholeAsBefore =
    (x : DriveImage) (file : List ℕ) (chains : ℕ → List Descriptor)
    → IsRead x file
    → (f : IsOldFile x file)
    → AreWhole x.geometry (view_of x) chains ↔ AreWhole x.geometry (view_of (by_old_rules x f.old)) chains

-- the same prefix and the same greatest number are read, over the same base
abbrev pub OldFilesAreReadAsBefore : Type 0
OldFilesAreReadAsBefore =
    (x : DriveImage) (file : List ℕ) (ds : List Descriptor) (top : ℕ)
    → IsRead x file
    → (f : IsOldFile x file)
    → (Reads x ds top ↔ Reads (by_old_rules x f.old) ds top)
    × ((view_of x).base ≡ (view_of (by_old_rules x f.old)).base)

-- the same home blocks stand
abbrev pub OldFilesStandAsBefore : Type 0
OldFilesStandAsBefore =
    (x : DriveImage) (file : List ℕ) (ds : List Descriptor) (top : ℕ) (stored : List (Option (List ℕ)))
    → IsRead x file
    → (f : IsOldFile x file)
    → Reads x ds top
    → AreStanding x ds stored ↔ AreStanding (by_old_rules x f.old) ds stored

-- and where it is not readable, the first cause is the same
abbrev pub OldFilesAreRefusedAsBefore : Type 0
OldFilesAreRefusedAsBefore =
    (x : DriveImage) (file : List ℕ) (e : ImageFault)
    → IsRead x file
    → (f : IsOldFile x file)
    → RefusesDrive x e ↔ RefusesDrive (by_old_rules x f.old) e
