-- Why no script is run on an image.
use Rattle.std.proofs.Common.{◌≡◌, Option, refl, subst}
use Rattle.mq_calls.specs.Mounting.{IsNotMounted, corrupt}
use Rattle.mq_drive.specs.Emu.{emu_state}
use Rattle.mq_image.specs.File.{DriveImage}
use Rattle.mq_image_ops.specs.Laws.{RecoveredDrivesHoldTheBlocks}
use Rattle.mq_image_ops.specs.Refusals.{refusal_for}
use Rattle.mq_image_ops.specs.Standing.{RefusesDrive, StandsFor}
use Rattle.mq_image_ops.specs.Standing as standing
use Rattle.mq_image_ops.specs.Views.{view_of}
use Rattle.mq_image_ops.specs.declared.ports.Failing.{Failing}
use Rattle.mq_image_ops.specs.declared.refusal.StandingRefusal.{StandingRefusal}
use Rattle.mq_image_ops.specs.declared.refusal.StandingRefusal.TheVariants.{Corrupt, Image, OutOfMemory}
use Rattle.mq_image_ops.proofs.Standing.{read-refused}
use Rattle.mq_image_ops.proofs.StandingVolumes.{stands-refused}
use Rattle.mq_image_run.specs.Limits.{AreWithin}
use Rattle.mq_image_run.specs.Refusals.{IsRefusedBy, IsUnfit, IsUnplayed}
use Rattle.mq_image_run.specs.Refusals as unfit
use Rattle.mq_image_run.specs.declared.unplayed.Unplayed.{Unplayed}
use Rattle.mq_image_run.specs.declared.unplayed.Unplayed.TheVariants as unplayed
use Rattle.mq_image_run.proofs.Refusals.{not-above}
use Rattle.mq_recover.proofs.DrivesImages.{read-same}
use Rattle.mq_recover.specs.Drives.{drive_of}
use Rattle.mq_recover.specs.declared.refusal.ImageFault.{ImageFault}
use Rattle.mq_recover.specs.declared.refusal.ImageFault.TheVariants.{Bad, Limit, Twice}
use Rattle.mq_recover.specs.declared.refusal.ImageFault.TheVariants as fault
use Rattle.mq_run_laws.specs.Played.{IsNotPlayed}
use Rattle.mq_run_laws.specs.Refusals.{RefusesRun, above_limit, not_mounted, not_readable, refusal_from, wanting}
use Rattle.mq_tree.specs.Volume.{Volume}
use Rattle.mq_tree.specs.declared.corrupt.MountRefusal.TheVariants as mount

-- an image that is not fit for a run
unread : (x : DriveImage) (e : ImageFault) → RefusesDrive x e → RefusesRun x (refusal_for e)
unread x fault.OutOfMemory is = wanting
unread x (Bad q cause) is = not_readable (Bad q cause) is
unread x (Twice n a b) is = not_readable (Twice n a b) is
unread x (Limit n) is = not_readable (Limit n) is

unfit-refuses : (x : DriveImage) (e : ImageFault) → IsUnfit x e → RefusesRun x (refusal_for e)
unfit-refuses x _ (unfit.not_readable e is) = unread x e is
unfit-refuses x _ (unfit.above_limit ds top read first) = above_limit ds top read first
unfit-refuses x _ unfit.wanting = wanting

-- a drive on which no volume stands
drive-refuses : RecoveredDrivesHoldTheBlocks → (x : DriveImage) (fail : Option Failing) (e : StandingRefusal) → IsRefusedBy (IsNotPlayed x.geometry) fail x e → RefusesRun x e
drive-refuses holds x fail OutOfMemory is = wanting
drive-refuses holds x fail (Image e) is = absurd is.refused
drive-refuses holds x fail (Corrupt cause b) is = mounted is.refused
  where
    mounted : IsNotMounted x.geometry (drive_of emu_state is.ports) (mount.Corrupt cause b) → RefusesRun x (Corrupt cause b)
    mounted (corrupt s stands bad none) =
        not_mounted is.recovery.ds is.recovery.top s.blocks.items is.recovery.plan.read (subst (AreWithin x) is.recovery.base is.within) (holds x is.recovered is.fuse fail is.ports s is.recovery is.started stands)
        (λ v laid. none v (record { standing = s; stands = stands; laid = laid })) bad

pub refuses : RecoveredDrivesHoldTheBlocks → (x : DriveImage) (fail : Option Failing) (e : Unplayed StandingRefusal) → IsUnplayed (IsNotPlayed x.geometry) fail x e → RefusesRun x (refusal_from e)
refuses holds x fail (unplayed.Image e) is = unfit-refuses x e is
refuses holds x fail (unplayed.Refused e) is = drive-refuses holds x fail e is

-- an image that is within the limits and stands for a volume is refused only as out of memory
pub only-wanting : (x : DriveImage) (v : Volume) (e : StandingRefusal) (for : StandsFor x v) → AreWithin x for.top → RefusesRun x e → e ≡ OutOfMemory
only-wanting x v _ for within (not_readable e refuses) = absurd (read-refused x for.ds for.top e for.read refuses)
only-wanting x v _ for within (above_limit ds top read first) =
    let once : for.top ≡ top = (read-same x.geometry (view_of x) for.ds ds for.top top for.read read).1 in
    absurd (not-above x _ top (subst (AreWithin x) once within) first)
only-wanting x v _ for within (not_mounted ds top stored read low blocks none is) =
    absurd (stands-refused x v _ for (standing.not_mounted ds top stored read blocks none is) (λ e. cc))
only-wanting x v _ for within wanting = refl
