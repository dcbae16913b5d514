-- What `--pick` chooses: the image that the cut of a text leaves, and what recoveries of it leave.
use Rattle.std.specs.Prelude.{◌≡◌, ℕ, List, Option, Some, None, unwrap_or}
use Rattle.mq_blocks.specs.Drive.{FuseName}
use Rattle.mq_drive.specs.declared.fuse.FuseSeat.{FuseSeat}
use Rattle.mq_image.specs.File.{DriveImage}
use Rattle.mq_image_ops.specs.Cuts.{IsPickedRecovery}
use Rattle.mq_image_ops.specs.Recovering.{IsRecoveryOf}
use Rattle.mq_image_ops.specs.Views.{home_blocks}
use Rattle.mq_image_ops.specs.declared.recovery.RecoveredImage.{RecoveredImage}
use Rattle.mq_block_text.specs.declared.item.BlockItem.{BlockItem}
use Rattle.mq_cli.specs.declared.command.BlocksOptions.{BlocksOptions}
use Rattle.mq_command_blocks.specs.Left.{IsLeft, IsPickedText}
use Rattle.mq_block_trace.specs.Lines.{map_after}
use Rattle.mq_command_blocks.specs.Live.{HoldsMap}

-- the pick is 0 where none is given
abbrev pub pick_of : BlocksOptions → ℕ
pick_of o = unwrap_or o.pick 0

-- the pick chose this image of the drive of a text, whose power lasted for `cut` events, if that is given
pub record IsPickedLeft (cut : Option ℕ) (pick : ℕ) (x : DriveImage) : Type 0 where
  pub fuse : FuseName
  pub power : fuse.limit ≡ cut
  pub seats : List FuseSeat
  pub picked : IsPickedText x.geometry pick fuse x.ports seats

-- A recovery of the image, on which the power stays on, finds so many transactions, and leaves these home
-- blocks by the pick.
pub record IsBroughtHome (x : DriveImage) (pick prefix : ℕ) (stored : List (Option (List ℕ))) : Type 0 where
  pub r : RecoveredImage
  pub recovery : IsRecoveryOf x None r
  pub chosen : IsPickedRecovery x None pick r
  pub prefix_is : prefix ≡ r.found.prefix
  pub blocks : stored ≡ home_blocks r.image

-- The same, or where `again` is given, after a first recovery with power for so many events, which finds so
-- many transactions: then a second one leaves these home blocks of the image that the pick chose.
abbrev pub IsRestarted : DriveImage → (again : Option ℕ) → (pick prefix : ℕ)
    → List (Option (List ℕ))
    → Type 0
IsRestarted x None pick prefix stored = IsBroughtHome x pick prefix stored
IsRestarted x (Some events) pick prefix stored =
    (first : RecoveredImage) × IsRecoveryOf x (Some events) first
    × IsPickedRecovery x (Some events) pick first × (prefix ≡ first.found.prefix)
    × (left : ℕ) × IsBroughtHome first.image pick left stored

-- The first p lines stand on this image, which the cut left by the pick. Recoveries by the same pick find
-- them, and leave home blocks that hold the map after them.
pub record IsRunBy (lines : List (List BlockItem)) (cut again : Option ℕ) (pick p : ℕ)
    (x : DriveImage) : Type 0 where
  pub left : IsLeft lines cut p x
  pub picked : IsPickedLeft cut pick x
  pub stored : List (Option (List ℕ))
  pub restarted : IsRestarted x again pick p stored
  pub holds : HoldsMap stored (map_after lines p)
