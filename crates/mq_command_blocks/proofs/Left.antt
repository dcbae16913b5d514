-- The image that the cut leaves of the drive of a block text.
use Rattle.std.proofs.Common.{◌≡◌, ◌<◌, ℕ, zero, suc, Bool, true, false, List, [], ◌∷◌, All, take, get_or, Option, None, refl, sym, ◌∙◌, ap, subst, arith}
use Rattle.std.specs.declared.vec.Vec.{Vec}
use Rattle.mq_blocks.specs.Drive.{FuseName, PortImage}
use Rattle.mq_blocks.specs.Geometry.{queues_of}
use Rattle.mq_blocks.specs.Journal.{Shown, shown, no_image}
use Rattle.mq_blocks.specs.declared.geometry.Geometry.{Geometry}
use Rattle.mq_drive.specs.Seats.{fuse_of}
use Rattle.mq_drive.specs.Start.{IsImageOf}
use Rattle.mq_drive.specs.declared.fuse.FuseSeat.{FuseSeat}
use Rattle.mq_drive.specs.declared.role.Role.TheVariants.{Queue, Root}
use Rattle.mq_image.specs.Drives.{IsDrive}
use Rattle.mq_image.specs.File.{DriveImage, image_bytes, root_port}
use Rattle.mq_image_ops.specs.Views.{view_of}
use Rattle.mq_nvme.specs.Says.{journal_reading}
use Rattle.mq_block_text.specs.declared.item.BlockItem.{BlockItem}
use Rattle.mq_command_blocks.specs.Commits.{ShowsMap}
use Rattle.mq_block_trace.specs.Prefixes.{events_under}
use Rattle.mq_command_blocks.specs.Cuts.{rung_after}
use Rattle.mq_block_trace.specs.Fresh.{IsTextGeometry}
use Rattle.mq_command_blocks.specs.Left.{IsFile, IsLeft, IsTraceFile, KeepsLeft, KeepsTrace, drive_image}
use Rattle.mq_block_trace.specs.Lines.{map_after}

module _ (g : Geometry) (q r : PortImage) (one : queues_of g ≡ 1) where
  pub left_root : root_port (drive_image g q r) ≡ r
  left_root = ap (λ (n : ℕ). get_or (q ∷ r ∷ []) n no_image) one

  pub left_view : view_of (drive_image g q r) ≡ shown journal_reading g (q ∷ []) r
  left_view = ap (λ (n : ℕ). shown journal_reading g (take n (q ∷ r ∷ [])) (get_or (q ∷ r ∷ []) n no_image)) one

  -- it has one port for each role
  pub left_drive : IsImageOf g (Queue 0) q → IsImageOf g Root r → IsDrive (drive_image g q r)
  left_drive queue root = record {
    ports = omega (arith, one);
    queues = λ k low. subst (λ (n : ℕ). IsImageOf g (Queue n) (get_or (q ∷ r ∷ []) n no_image)) (let e : 0 ≡ k = omega (arith, one, low) in e) queue;
    root = subst (IsImageOf g Root) (sym left_root) root;
  }

pub is_left : (lines : List (List BlockItem)) (cut : Option ℕ) (p : ℕ) (g : Geometry) (q r : PortImage) → IsTextGeometry g → IsImageOf g (Queue 0) q → IsImageOf g Root r
    → ShowsMap g (shown journal_reading g (q ∷ []) r) p (map_after lines p) → q.doorbell ≡ rung_after lines (events_under lines cut) → IsLeft lines cut p (drive_image g q r)
is_left lines cut p g q r text queue root shows rung = record {
  geometry_is = text;
  drive = left_drive g q r text.queues queue root;
  shows = subst (λ (i : Shown). ShowsMap g i p (map_after lines p)) (sym (left_view g q r text.queues)) shows;
  rung = ap (λ (i : Shown). i.doorbell 0) (left_view g q r text.queues) ∙ rung;
}

-- both seats are of the fuse
pub two_seats : (fuse : FuseName) (q r : FuseSeat) (seats : List FuseSeat) → seats ≡ q ∷ r ∷ [] → fuse_of q ≡ fuse → fuse_of r ≡ fuse → All (λ s. fuse_of s ≡ fuse) seats
two_seats fuse q r seats are first second = subst (All (λ s. fuse_of s ≡ fuse)) (sym are) of
  where
    of : (k : ℕ) (d : FuseSeat) → k < 2 → fuse_of (get_or (q ∷ r ∷ []) k d) ≡ fuse
    of zero d low = first
    of (suc zero) d low = second
    of (suc (suc k)) d low = absurd (omega (arith, low))

module _ {Z : Type 0} where
  -- its file is kept where it is wanted
  pub keeps_left : (wanted : Bool) (x : DriveImage) (left : Option (Vec ℕ Z)) → (wanted ≡ false → left ≡ None) → (wanted ≡ true → IsFile (image_bytes x) left) → KeepsLeft wanted x left
  keeps_left false x left none some = none refl
  keeps_left true x left none some = some refl

  -- so is the trace
  pub keeps_trace : (wanted : Bool) (lines : List (List BlockItem)) (cut : Option ℕ) (traced : Option (Vec ℕ Z)) → (wanted ≡ false → traced ≡ None) → (wanted ≡ true → IsTraceFile lines cut traced) → KeepsTrace wanted lines cut traced
  keeps_trace false lines cut traced none some = none refl
  keeps_trace true lines cut traced none some = some refl
