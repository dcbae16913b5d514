-- What stands on an image after one recovery, and after two.
use Rattle.std.proofs.Common.{◌≡◌, ◌⊎◌, ◌<◌, ⊎_elim, ℕ, List, [], length, Option, Some, None, refl, sym, ◌∙◌, ap, subst, arith}
use Rattle.mq_blocks.specs.Descriptor.{Descriptor}
use Rattle.mq_blocks.specs.Geometry.{homes_of}
use Rattle.mq_blocks.specs.Journal.{Reaches, stands}
use Rattle.mq_blocks.specs.declared.geometry.Geometry.{Geometry}
use Rattle.mq_image.specs.File.{DriveImage}
use Rattle.mq_image_ops.specs.Recovering.{EndsAs, IsRecoveryOf, events_of}
use Rattle.mq_image_ops.specs.Standing.{IsStandingOf, Reads, RefusesDrive}
use Rattle.mq_image_ops.specs.Views.{home_blocks, view_of}
use Rattle.mq_image_ops.specs.declared.recovery.RecoveredImage.{RecoveredImage}
use Rattle.mq_image_ops.proofs.Standing.{whole-refused}
use Rattle.mq_image_ops.proofs.ViewsHomeBlocks.{recovered-stand}
use Rattle.mq_recover.specs.declared.refusal.ImageFault.{ImageFault}
use Rattle.mq_recover.specs.declared.refusal.ImageFault.TheVariants.{OutOfMemory}
use Rattle.mq_recover.proofs.DrivesImages.{reaches-same, read-reaches, read-same}
use Rattle.mq_block_text.specs.declared.item.BlockItem.{BlockItem}
use Rattle.mq_command_blocks.specs.Left.{IsLeft}
use Rattle.mq_block_trace.specs.Lines.{map_after}
use Rattle.mq_command_blocks.specs.Live.{HoldsMap}
use Rattle.mq_command_blocks.specs.Restart.{StandsOn}
use Rattle.mq_command_blocks.proofs.CutsDrives.{text_homes}

-- a readable image is refused for want of memory alone
pub memory_alone : (x : DriveImage) (e : ImageFault) → (ds : List Descriptor) × Reaches x.geometry (view_of x) ds → (e ≡ OutOfMemory) ⊎ RefusesDrive x e → e ≡ OutOfMemory
memory_alone x e readable why =
    let reaches = readable.1 in
    ⊎_elim (λ same. same) (λ refuses. absurd (whole-refused x reaches.chains e reaches.whole refuses)) why

-- What a recovery leaves is readable, and stands for the same blocks.
record IsLeftOver (x : DriveImage) (ds : List Descriptor) (top : ℕ) (y : DriveImage) : Type 0 where
  pub left : List Descriptor
  pub read : Reads y left top
  pub alike : (b : ℕ) → b < homes_of x.geometry → stands x.geometry (view_of y) left b ≡ stands x.geometry (view_of x) ds b

left_over : (x : DriveImage) (ds : List Descriptor) (top events : ℕ) (limit cut : Option ℕ) (y : DriveImage) → EndsAs x ds top events limit cut y → IsLeftOver x ds top y
left_over x ds top events limit None y ends = let home = ends.1 in record { left = []; read = home.again; alike = home.homes }
left_over x ds top events limit (Some k) y ends = let still = ends.2 in record { left = still.left; read = still.read; alike = still.alike }

module _ (x : DriveImage) (limit : Option ℕ) (r : RecoveredImage) (recovery : IsRecoveryOf x limit r) where
  over : IsLeftOver x recovery.ds recovery.top r.image
  over = left_over x recovery.ds recovery.top (events_of x recovery.writes recovery.top) limit r.cut r.image recovery.ends

  pub still_readable : (ds : List Descriptor) × Reaches r.image.geometry (view_of r.image) ds
  still_readable = (over.left, read-reaches r.image.geometry (view_of r.image) over.left recovery.top over.read)

  -- what then stands is what stood before
  pub stands_through : (prefix : ℕ) (stored : List (Option (List ℕ))) → StandsOn r.image prefix stored → StandsOn x r.found.prefix stored
  stands_through prefix stored now =
      let same : r.image.geometry ≡ x.geometry = recovery.geometry in
      let found : now.ds ≡ over.left = (read-same r.image.geometry (view_of r.image) now.ds over.left now.top recovery.top now.read over.read).0 in
      record {
        ds = recovery.ds;
        top = recovery.top;
        read = recovery.plan.read;
        prefix_is = recovery.prefix;
        blocks = record {
          count = now.blocks.count ∙ ap homes_of same;
          each = λ b low.
              now.blocks.each b (subst (λ (h : Geometry). b < homes_of h) (sym same) low)
              ∙ ap (λ (h : Geometry). stands h (view_of r.image) now.ds b) same
              ∙ ap (λ (l : List Descriptor). stands x.geometry (view_of r.image) l b) found
              ∙ over.alike b low;
        };
      }

-- a recovery on which the power stays on takes home what stood
pub stands_home : (x : DriveImage) (r : RecoveredImage) (stored : List (Option (List ℕ))) → IsRecoveryOf x None r → stored ≡ home_blocks r.image → StandsOn x r.found.prefix stored
stands_home x r stored recovery is =
    let stood : IsStandingOf x stored = recovered-stand x r stored recovery is in
    record {
      ds = stood.ds;
      top = stood.top;
      read = stood.read;
      prefix_is = recovery.prefix ∙ ap length (read-same x.geometry (view_of x) recovery.ds stood.ds recovery.top stood.top recovery.plan.read stood.read).0;
      blocks = stood.blocks;
    }

-- ---- the lines that stand

-- so many lines stand on the blocks
pub record HoldsLines (lines : List (List BlockItem)) (p prefix : ℕ) (stored : List (Option (List ℕ))) : Type 0 where
  pub prefix_is : prefix ≡ p
  pub size : length stored ≡ 256
  pub map : HoldsMap stored (map_after lines p)

pub holds_lines : (lines : List (List BlockItem)) (cut : Option ℕ) (p : ℕ) (x : DriveImage) (prefix : ℕ) (stored : List (Option (List ℕ))) → IsLeft lines cut p x → StandsOn x prefix stored → HoldsLines lines p prefix stored
holds_lines lines cut p x prefix stored left now =
    let shows = left.shows in
    let homes : homes_of x.geometry ≡ 256 = text_homes x.geometry left.geometry_is in
    let same : now.ds ≡ shows.ds = reaches-same x.geometry (view_of x) now.ds shows.ds refl (read-reaches x.geometry (view_of x) now.ds now.top now.read) shows.reaches in
    record {
      prefix_is = now.prefix_is ∙ ap length same ∙ shows.prefix_is;
      size = now.blocks.count ∙ homes;
      map = λ b v low some.
          let below : b < homes_of x.geometry = omega (arith, homes, low) in
          now.blocks.each b below ∙ ap (λ (l : List Descriptor). stands x.geometry (view_of x) l b) same ∙ shows.blocks b v below some;
    }
