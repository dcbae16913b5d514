-- Which transactions stand: those right above the base without a gap.
use Rattle.std.specs.Prelude.{◌≡◌, ℕ, ◌+◌, List, [], ◌∷◌, length, nat_eq, if◌then◌else◌}
use Rattle.mq_blocks.specs.Descriptor.{Descriptor}
use Rattle.mq_blocks.specs.declared.geometry.Geometry.{Geometry}
use Rattle.mq_recover.specs.Copies.{AreCopies, with_all}
use Rattle.mq_recover.specs.Drives.{DriveState, view_over}
use Rattle.mq_recover.specs.Merges.{AreMerged}
use Rattle.mq_recover.specs.Recovery.{IsReadPrefix}
use Rattle.mq_recover.specs.declared.choice.Chosen.{Chosen}
use Rattle.mq_recover.specs.declared.choice.Found.{Found}

-- Of transactions whose numbers fall, those right above the base, as far as there is no gap.
abbrev pub run_of : ℕ → List Descriptor → List Descriptor
run_of base [] = []
run_of base (d ∷ ds) =
    if nat_eq d.number (base + length (run_of base ds) + 1) then d ∷ run_of base ds
    else run_of base ds

-- the transactions of these chains right above the base are counted, and this is where their copies stand
pub record IsChosen (homes base : ℕ) (chains : List (List Descriptor)) (c : Chosen) : Type 0 where
  pub merged : List Descriptor
  pub are_merged : AreMerged homes base chains merged
  pub copies_are : c.copies.items ≡ with_all homes (run_of base merged)
  pub prefix_is : c.prefix ≡ length (run_of base merged)

-- the image is readable, and this is where the copies stand of the descriptors of its prefix
pub record IsFoundIn (g : Geometry) (d : DriveState) (found : Found) : Type 0 where
  pub ds : List Descriptor
  pub read : IsReadPrefix g (view_over g d) ds found.recovered.base
  pub copies_are : AreCopies g ds found.copies.items
  pub prefix_is : found.recovered.prefix ≡ length ds
