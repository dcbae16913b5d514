-- What a run of groups on an image promises.
use Rattle.std.specs.Prelude.{◌≡◌, ◌≢◌, ◌<◌, ◌≤◌, ℕ, ◌+◌, List, [], length, Option, None, Some}
use Rattle.mq_blocks.specs.Blocks.{content}
use Rattle.mq_blocks.specs.Descriptor.{Descriptor}
use Rattle.mq_blocks.specs.Geometry.{meta_of, queues_of}
use Rattle.mq_blocks.specs.Journal.{Shown, stands}
use Rattle.mq_blocks.specs.declared.geometry.Geometry.{Geometry}
use Rattle.mq_image.specs.Drives.{IsRead}
use Rattle.mq_image.specs.Faults.{HasFault}
use Rattle.mq_image.specs.File.{DriveImage, image_bytes}
use Rattle.mq_image_ops.specs.Cuts.{row_of}
use Rattle.mq_image_ops.specs.Views.{view_of}
use Rattle.mq_kv_buckets.specs.declared.operation.KvOp.{KvOp}
use Rattle.mq_kv_run.specs.Groups.{AreTold, IsReached, Point}
use Rattle.mq_kv_run.specs.Limits.{HoldsStore, standing_map}
use Rattle.mq_kv_run.specs.Recovering.{HoldsHome, LeadsTo}
use Rattle.mq_image_run.specs.Drives.{events_on}
use Rattle.mq_kv_run.specs.Drives.{HaveRefused}
use Rattle.mq_kv_run.specs.Runs.{IsRunOf}
use Rattle.mq_kv_run.specs.Stores.{LeaveStore, store_at}
use Rattle.mq_kv_run.specs.declared.options.KvOptions.{KvOptions}
use Rattle.mq_kv_run.specs.declared.ran.KvRun.{KvRun}
use Rattle.mq_kv_text.specs.declared.report.LastLine.TheVariants.{Clean, Cut}
use Rattle.mq_recover.specs.Recovery.{IsReadPrefix}

-- where a run begins: at the home blocks that stand on the image, and at its greatest number, which is the base
-- after its recovery
abbrev pub first_point : DriveImage → List Descriptor → (top : ℕ) → Point
first_point x ds top = record { map = standing_map x ds; number = top; entries = 0 }

-- The image is a cut of the history at this point. It is readable, and so rung whole; it reaches the number of the
-- point, and each of its buckets stands with the content there. No number that it shows is above the newest one,
-- so that the next run goes on from there.
pub record IsCutAt (g : Geometry) (i : Shown) (p : Point) (newest : ℕ) : Type 0 where
  pub ds : List Descriptor
  pub top : ℕ
  pub read : IsReadPrefix g i ds top
  pub reaches : p.number ≡ i.base + length ds
  pub each : (b : ℕ) → b < meta_of g → stands g i ds b ≡ content (p.map b)
  pub top_most : top ≤ newest

-- The base is n, which is the greatest number that the image shows; no transaction is above it, so that its prefix
-- is 0, and each head is at its doorbell.
pub record IsCleanAt (g : Geometry) (i : Shown) (n : ℕ) : Type 0 where
  pub base_is : i.base ≡ n
  pub read : IsReadPrefix g i [] n
  pub heads : (q : ℕ) → q < queues_of g → i.head q ≡ i.doorbell q

-- The power was to go off after k events, all of them happened, and a port refused a further one.
pub record HasGoneOff (x : DriveImage) (groups : List (List KvOp)) (o : KvOptions) (r : KvRun)
    (run : IsRunOf x groups o r) : Type 0 where
  pub k : ℕ
  pub asked : o.cut ≡ Some k
  pub happened : r.report.last ≡ Cut k
  pub refused : HaveRefused (row_of run.on.stops.drives.end)

-- The last line of a run whose power was to go off after k events gives how many happened on the ports, at most k.
-- Else it gives a number.
abbrev pub IsEndOf : (x : DriveImage) (groups : List (List KvOp)) (o : KvOptions) (r : KvRun)
    → IsRunOf x groups o r → (cut : Option ℕ) → Type 0
IsEndOf x groups o r run (Some k) =
    (r.report.last ≡ Cut (events_on (row_of run.on.stops.drives.end)))
    × (events_on (row_of run.on.stops.drives.end) ≤ k)
IsEndOf x groups o r run None = (n : ℕ) × (r.report.last ≡ Clean n)

-- A store stands on the old image. What is reported of the groups is what they come to on it, one after another,
-- in the words of the store too. The power cut a group off only where it was to go off. Of the groups, those are
-- committed that are reported with a number that they drew, and maybe the one that was cut off: the new image is a
-- cut of this history at its end, with all that is reported. Its file is one of an image, and whatever recovery of
-- what is read of the file leads to has the buckets, and so the store, of this point at home. The doorbell of
-- queue 0 has gone on by the entries of the groups that are reported, and maybe of the one that was cut off, and
-- that of each other queue is where it was. Without a cut the last line gives the last number, which is the base
-- of a clean image.
pub record KeepsPromise (x : DriveImage) (groups : List (List KvOp)) (o : KvOptions)
    (r : KvRun) : Type 0 where
  pub ds : List Descriptor
  pub top : ℕ
  pub holds : HoldsStore x ds top
  pub off : Option (List KvOp)
  pub last : Point
  pub told : AreTold x.geometry (first_point x ds top) groups r.report.groups off last
  pub store : LeaveStore (store_at x.geometry (first_point x ds top)) groups r.report.groups
      (store_at x.geometry last)
  pub power : (run : IsRunOf x groups o r) → off ≢ None → HasGoneOff x groups o r run
  pub end : (run : IsRunOf x groups o r) → IsEndOf x groups o r run o.cut
  pub newest : Point
  pub drawn : IsReached x.geometry last off newest
  pub reached : Point
  pub at : IsReached x.geometry last off reached
  pub cut : IsCutAt x.geometry (view_of r.image) reached newest.number
  pub file : HasFault (image_bytes r.image) None
  pub recovered : (y z : DriveImage) → IsRead z (image_bytes r.image) → LeadsTo y z
      → HoldsHome x.geometry y reached.map
  pub rung : Point
  pub sent : IsReached x.geometry last off rung
  pub doorbell : (view_of r.image).doorbell 0 ≡ (view_of x).doorbell 0 + rung.entries
  pub others : (q : ℕ) → 0 < q → q < queues_of x.geometry
      → (view_of r.image).doorbell q ≡ (view_of x).doorbell q
  pub clean : (n : ℕ) → r.report.last ≡ Clean n
      → (n ≡ last.number) × (off ≡ None) × IsCleanAt x.geometry (view_of r.image) n

-- so it is of every run
abbrev pub RunsKeepTheirPromise : Type 0
RunsKeepTheirPromise =
    (x : DriveImage) (groups : List (List KvOp)) (o : KvOptions) (r : KvRun)
    → IsRunOf x groups o r → KeepsPromise x groups o r
