-- What is tested before a run, and why nothing was played.
use Rattle.std.proofs.Common.{◌≡◌, ◌⊎◌, ℕ, ◌<◌, ◌≤◌, List, None, Option, refl, subst, sym, ◌∙◌, inl, inr, arith}
use Rattle.mq_blocks.specs.Descriptor.{Descriptor}
use Rattle.mq_blocks.specs.Drive.{FuseName}
use Rattle.mq_blocks.specs.Geometry.{queues_of}
use Rattle.mq_blocks.specs.declared.geometry.Geometry.{Geometry}
use Rattle.mq_drive.specs.declared.emu.EmuPort.{EmuPort}
use Rattle.mq_drive.specs.declared.port.Ports.{Ports}
use Rattle.mq_image.specs.File.{DriveImage}
use Rattle.mq_image_ops.specs.Recovering.{IsRecoveryOf}
use Rattle.mq_image_ops.specs.Standing.{Reads, RefusesDrive}
use Rattle.mq_image_ops.specs.Views.{view_of}
use Rattle.mq_image_ops.specs.declared.ports.Failing.{Failing}
use Rattle.mq_image_ops.specs.declared.recovery.RecoveredImage.{RecoveredImage}
use Rattle.mq_image_ops.proofs.Standing.{read-refused}
use Rattle.mq_recover.proofs.DrivesImages.{read-same}
use Rattle.mq_recover.specs.declared.refusal.ImageFault.{ImageFault}
use Rattle.mq_recover.specs.declared.refusal.ImageFault.TheVariants.{Limit}
use Rattle.mq_recover.specs.declared.refusal.ImageFault.TheVariants as fault
use Rattle.mq_image_run.specs.Drives.{IsUndriven}
use Rattle.mq_image_run.specs.Limits.{AreBelow, AreWithin, IsFirstAbove}
use Rattle.mq_image_run.specs.Refusals.{IsUnfit, IsUnplayed, above_limit, not_readable, wanting}
use Rattle.mq_image_run.specs.declared.unplayed.Unplayed.{Unplayed}
use Rattle.mq_image_run.specs.declared.unplayed.Unplayed.TheVariants.{Image, Refused}

module _ (x : DriveImage) (r : RecoveredImage) (recovery : IsRecoveryOf x None r) where
  -- the recovery moves no doorbell
  below-before : (q base : ℕ) → q ≤ queues_of x.geometry → AreBelow q r.image base → AreBelow q x base
  below-before q base most below = record {
    base_low = below.base_low;
    doorbells = λ p low.
        let same = recovery.doorbells p (omega arith) in
        let high = below.doorbells p low in
        omega arith;
  }

  first-before : (n : ℕ) → IsFirstAbove r.image r.found.base n → IsFirstAbove x recovery.top n
  first-before n (above, inl same) = (above, inl (same ∙ recovery.base))
  first-before n (above, inr at) =
      let q = at.0 in
      let inside : q < queues_of x.geometry = subst (λ (g : Geometry). q < queues_of g) recovery.geometry at.1 in
      let below = subst (AreBelow q x) recovery.base (below-before q r.found.base (omega arith) at.2) in
      (above, inr (q, inside, below, at.3 ∙ recovery.doorbells q inside))

  pub unfit-limit : (n : ℕ) → IsFirstAbove r.image r.found.base n → IsUnfit x (Limit n)
  unfit-limit n first = above_limit recovery.ds recovery.top recovery.plan.read (first-before n first)

  -- what a drive refused is refused of the image
  pub unplayed : {E : Type 0} (Refuses : Ports EmuPort → E → Type 0) (fail : Option Failing) (fuse : FuseName) → AreWithin x r.found.base → (e : Unplayed E) → IsUndriven Refuses fuse fail r.image e → IsUnplayed Refuses fail x e
  unplayed {E} Refuses fail fuse within (Image e) is = subst (IsUnfit x) (sym is) wanting
  unplayed {E} Refuses fail fuse within (Refused e) (ports, started, refused) = record {
    recovered = r;
    recovery = recovery;
    within = within;
    fuse = fuse;
    ports = ports;
    started = started;
    refused = refused;
  }

pub unfit-image : (x : DriveImage) (e : ImageFault) → (e ≡ fault.OutOfMemory) ⊎ RefusesDrive x e → IsUnfit x e
unfit-image x e (inl is) = subst (IsUnfit x) (sym is) wanting
unfit-image x e (inr refuses) = not_readable e refuses

-- ---- where nothing but memory runs out

pub not-above : (x : DriveImage) (n base : ℕ) → AreWithin x base → IsFirstAbove x base n → ⊥
not-above x n base within (above, inl is) = let low = within.base_low in omega (arith, above, is, low)
not-above x n base within (above, inr at) = let low = within.doorbells at.0 at.1 in let is = at.3 in omega (arith, above, is, low)

-- an image that is readable and within the limits is unfit only where memory ran out
pub only-wanting : (x : DriveImage) (ds : List Descriptor) (top : ℕ) (e : ImageFault) → Reads x ds top → AreWithin x top → IsUnfit x e → e ≡ fault.OutOfMemory
only-wanting x ds top _ read within (not_readable e refuses) = absurd (read-refused x ds top e read refuses)
only-wanting x ds top _ read within (above_limit es other also first) =
    let once : top ≡ other = (read-same x.geometry (view_of x) ds es top other read also).1 in
    absurd (not-above x _ other (subst (AreWithin x) once within) first)
only-wanting x ds top _ read within wanting = refl
