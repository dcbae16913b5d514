-- How a run ends, and why none is made.
use Rattle.std.proofs.Common.{◌≡◌, ◌<◌, ℕ, Bool, false, List, Option, None, Some, inl, inr, refl, sym, ◌∙◌, ap, subst, arith}
use Rattle.std.specs.Prelude.{Err}
use Rattle.mq_blocks.specs.Blocks.{block_at, content}
use Rattle.mq_blocks.specs.Descriptor.{Descriptor}
use Rattle.mq_blocks.specs.Drive.{FuseName}
use Rattle.mq_blocks.specs.Geometry.{homes_of, meta_of}
use Rattle.mq_blocks.specs.declared.geometry.Geometry.{Geometry}
use Rattle.mq_drive.specs.Emu.{emu_faults, emu_state}
use Rattle.mq_drive.specs.declared.emu.EmuPort.{EmuPort}
use Rattle.mq_drive.specs.declared.port.Ports.{Ports}
use Rattle.mq_image.specs.File.{DriveImage}
use Rattle.mq_image_ops.specs.Cuts.{row_of}
use Rattle.mq_image_ops.specs.Laws.{RecoveredDrivesHoldTheBlocks}
use Rattle.mq_image_ops.specs.Recovering.{IsRecoveryOf}
use Rattle.mq_image_ops.specs.Standing.{AreStanding, RefusesDrive}
use Rattle.mq_image_ops.specs.Starts.{AreStarted}
use Rattle.mq_image_ops.specs.Views.{view_of}
use Rattle.mq_image_ops.specs.declared.ports.Failing.{Failing}
use Rattle.mq_image_ops.specs.declared.recovery.RecoveredImage.{RecoveredImage}
use Rattle.mq_image_ops.proofs.Standing.{read-refused}
use Rattle.mq_image_run.specs.Drives.{IsDriven, emu_ghosts, was_executed}
use Rattle.mq_image_run.specs.Limits.{AreWithin}
use Rattle.mq_image_run.specs.Refusals.{IsRefusedBy, IsUnfit, IsUnplayed}
use Rattle.mq_image_run.specs.Refusals as unfit
use Rattle.mq_image_run.specs.Runs.{IsPlayedOn}
use Rattle.mq_image_run.specs.declared.options.DriveOptions.{DriveOptions}
use Rattle.mq_image_run.specs.declared.ran.PlayedImage.{PlayedImage}
use Rattle.mq_image_run.specs.declared.unplayed.Unplayed.{Unplayed}
use Rattle.mq_image_run.specs.declared.unplayed.Unplayed.TheVariants as unplayed
use Rattle.mq_image_run.proofs.Powered.{none-refused}
use Rattle.mq_image_run.proofs.Refusals.{not-above}
use Rattle.mq_journal.specs.declared.refusal.CheckpointRefusal.TheVariants as checkpoint
use Rattle.mq_kv.specs.Opening.{AreFormed, IsLeastBad, IsNotOpened, bucket, memory}
use Rattle.mq_kv.specs.declared.refusal.KvOpenRefusal.{KvOpenRefusal}
use Rattle.mq_kv_buckets.specs.Buckets.{IsFirstBad, IsFormed, records_of}
use Rattle.mq_kv_buckets.specs.Laws.{NothingIsBad}
use Rattle.mq_kv_buckets.specs.Store.{AreBuckets}
use Rattle.mq_kv_buckets.specs.declared.operation.KvOp.{KvOp}
use Rattle.mq_kv_run.specs.Drives.{IsNotPlayed, PlaysGroups, with_told}
use Rattle.mq_kv_run.specs.Limits.{HoldsStore, standing_map}
use Rattle.mq_kv_run.specs.Refusals.{IsUnopened, RefusesStore, above_limit, not_formed, not_readable, refusal_for, refusal_from, wanting}
use Rattle.mq_kv_run.specs.Runs.{IsRunOf}
use Rattle.mq_kv_run.specs.declared.driving.Played.{Played}
use Rattle.mq_kv_run.specs.declared.options.KvOptions.{KvOptions}
use Rattle.mq_kv_run.specs.declared.ran.KvRun.{KvRun}
use Rattle.mq_kv_run.specs.declared.refusal.KvRunRefusal.{KvRunRefusal}
use Rattle.mq_kv_run.specs.declared.refusal.KvRunRefusal.TheVariants.{Bucket, OutOfMemory}
use Rattle.mq_kv_run.proofs.Backed.{StopsAreBehind}
use Rattle.mq_queue_side.specs.declared.answers.Cause.{Cause}
use Rattle.mq_recover.proofs.DrivesImages.{read-same}
use Rattle.mq_recover.specs.Drives.{drive_of}
use Rattle.mq_recover.specs.Standing.{StandsIn}
use Rattle.mq_recover.specs.declared.refusal.ImageFault.{ImageFault}
use Rattle.mq_recover.specs.declared.refusal.ImageFault.TheVariants.{Bad, Limit, Twice}
use Rattle.mq_recover.specs.declared.refusal.ImageFault.TheVariants as fault
use Rattle.mq_recover.specs.declared.standing.Standing.{Standing}

meta-homes : (g : Geometry) (b : ℕ) → b < meta_of g → b < homes_of g
meta-homes g b low = omega (arith, low)

-- ---- the buckets that stand

module _ (x : DriveImage) (r : RecoveredImage) (recovery : IsRecoveryOf x None r) (holds : RecoveredDrivesHoldTheBlocks) (fuse : FuseName) (ports : Ports EmuPort) (s : Standing) (started : AreStarted fuse None r.image ports) (stands : StandsIn x.geometry (drive_of emu_state ports) s) where
  standing : AreStanding x recovery.ds s.blocks.items
  standing = holds x r fuse None ports s recovery started stands

  same-bucket : (b : ℕ) → b < meta_of x.geometry → block_at s.blocks.items b ≡ content (standing_map x recovery.ds b)
  same-bucket b low = standing.each b (meta-homes x.geometry b low)

  -- they are in their form where a store was opened with them
  pub formed-there : AreFormed (meta_of x.geometry) s.blocks.items → AreBuckets (meta_of x.geometry) (standing_map x recovery.ds)
  formed-there formed b low = subst IsFormed (same-bucket b low) (formed b low)

  bad-there : (b offset : ℕ) → IsLeastBad x.geometry s.blocks.items b offset → AreWithin x r.found.base → RefusesStore x (Bucket b offset)
  bad-there b offset bad within =
      not_formed recovery.ds recovery.top recovery.plan.read (subst (AreWithin x) recovery.base within)
      (record {
        is = bad.meta;
        before = λ a less. subst IsFormed (same-bucket a (let low = bad.meta in omega (arith, less, low))) (bad.least a less);
        bad = subst (λ (l : List ℕ). IsFirstBad l offset) (same-bucket b bad.meta) bad.bad;
      })

  pub unopened : AreWithin x r.found.base → (why : KvOpenRefusal) (e : KvRunRefusal) → IsUnopened why e → IsNotOpened x.geometry s.blocks.items why → RefusesStore x e
  unopened within _ e is (memory formed) = subst (RefusesStore x) (sym is) wanting
  unopened within _ e is (bucket {b} {offset} bad) = subst (RefusesStore x) (sym is) (bad-there b offset bad within)

-- ---- why nothing is played on an image

unread : (x : DriveImage) (e : ImageFault) → RefusesDrive x e → RefusesStore x (refusal_for e)
unread x fault.OutOfMemory is = wanting
unread x (Bad q cause) is = not_readable (Bad q cause) is
unread x (Twice n a b) is = not_readable (Twice n a b) is
unread x (Limit n) is = not_readable (Limit n) is

unfit-refuses : (x : DriveImage) (e : ImageFault) → IsUnfit x e → RefusesStore x (refusal_for e)
unfit-refuses x _ (unfit.not_readable e is) = unread x e is
unfit-refuses x _ (unfit.above_limit ds top read first) = above_limit ds top read first
unfit-refuses x _ unfit.wanting = wanting

drive-refuses : RecoveredDrivesHoldTheBlocks → (x : DriveImage) (e : KvRunRefusal) (is : IsRefusedBy (IsNotPlayed x.geometry) None x e) → IsNotPlayed x.geometry is.ports e → RefusesStore x e
drive-refuses holds x e is (inl none) = subst (RefusesStore x) (sym none) wanting
drive-refuses holds x e is (inr (s, stands, inl none)) = subst (RefusesStore x) (sym none) wanting
drive-refuses holds x e is (inr (s, stands, inr why)) = unopened x is.recovered is.recovery holds is.fuse is.ports s is.started stands is.within why.0 e why.1 why.2

pub refuses : RecoveredDrivesHoldTheBlocks → (x : DriveImage) (e : Unplayed KvRunRefusal) → IsUnplayed (IsNotPlayed x.geometry) None x e → RefusesStore x (refusal_from e)
refuses holds x (unplayed.Image e) is = unfit-refuses x e is
refuses holds x (unplayed.Refused e) is = drive-refuses holds x e is is.refused

-- ---- where nothing but memory runs out

-- an image on which a store stands within the limits is refused only as out of memory
pub only-wanting : NothingIsBad → (x : DriveImage) (ds : List Descriptor) (top : ℕ) (e : KvRunRefusal) → HoldsStore x ds top → RefusesStore x e → e ≡ OutOfMemory
only-wanting never x ds top _ holds (not_readable e refuses) = absurd (read-refused x ds top e holds.read refuses)
only-wanting never x ds top _ holds (above_limit es other read first) =
    let once : top ≡ other = (read-same x.geometry (view_of x) ds es top other holds.read read).1 in
    absurd (not-above x _ other (subst (AreWithin x) once holds.within) first)
only-wanting never x ds top _ holds (not_formed {b} {offset} es other read within bad) =
    let once : ds ≡ es = (read-same x.geometry (view_of x) ds es top other holds.read read).0 in
    let formed : IsFormed (content (standing_map x es b)) = subst (λ (l : List Descriptor). IsFormed (content (standing_map x l b))) once (holds.formed b bad.is) in
    absurd (never (content (standing_map x es b)) (records_of (content (standing_map x es b))) offset formed bad.bad)
only-wanting never x ds top _ holds wanting = refl

-- ---- a run

-- a run begins on an image on which a store stands within the limits
pub run-holds : (x : DriveImage) (groups : List (List KvOp)) (o : KvOptions) (r : KvRun) (run : IsRunOf x groups o r) → HoldsStore x run.on.recovery.ds run.on.recovery.top
run-holds x groups o r run = record { read = run.on.recovery.plan.read; within = subst (AreWithin x) run.on.recovery.base run.on.within; formed = run.formed }

-- with the power on, the drive did not refuse the checkpoint at the end
module _ (x : DriveImage) (groups : List (List KvOp)) (finish : Bool) (o : DriveOptions) (r : PlayedImage Played) (on : IsPlayedOn (PlaysGroups x.geometry groups finish) x o r) (none : o.limit ≡ None) (unfailing : o.fail ≡ None) where
  abbrev drives : IsDriven (PlaysGroups x.geometry groups finish) on.fuse on.recovered.image o r.played r.failed r.image.ports on.stops.seats
  drives = on.stops.drives

  pub not-refused : StopsAreBehind emu_ghosts emu_state emu_faults → (c : Cause) → r.played.finished ≡ Some (Err (checkpoint.Drive c)) → ⊥
  not-refused backed c stopped =
      let plays = drives.plays in
      let behind = backed x.geometry drives.ports plays.standing groups finish (with_told drives.end r.played) c plays.ran stopped in
      let fine : r.failed ≡ false = drives.named ∙ ap (λ (f : Option Failing). was_executed f (row_of drives.end)) unfailing in
      none-refused (PlaysGroups x.geometry groups finish) on.fuse on.recovered.image on.recovery.drive o r.played r.failed r.image.ports on.stops.seats drives (on.power ∙ none) x.geometry fine c behind.0 behind.1
