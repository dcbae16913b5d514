-- What a run of groups leaves of its image.
use Rattle.std.specs.Prelude.{◌≡◌, ◌<◌, ℕ, ◌+◌, List, Option, None}
use Rattle.mq_blocks.specs.Geometry.{queues_of}
use Rattle.mq_drive.specs.declared.emu.EmuPort.{EmuPort}
use Rattle.mq_image.specs.Drives.{IsRead}
use Rattle.mq_image.specs.Faults.{HasFault}
use Rattle.mq_image.specs.File.{DriveImage, image_bytes}
use Rattle.mq_image_ops.specs.Views.{view_of}
use Rattle.mq_journal.specs.Numbers.{Seat, Shared}
use Rattle.mq_kv_buckets.specs.declared.operation.KvOp.{KvOp}
use Rattle.mq_kv_entries.specs.declared.entry.KvEntry.{KvEntry}
use Rattle.mq_image_run.specs.Drives.{emu_ghosts}
use Rattle.mq_kv_run.specs.Groups.{IsReached, Point}
use Rattle.mq_kv_run.specs.Promise.{IsCleanAt, IsCutAt}
use Rattle.mq_kv_run.specs.Recovering.{HoldsHome, LeadsTo}
use Rattle.mq_kv_run.specs.Runs.{IsRunOf}
use Rattle.mq_kv_run.specs.declared.options.KvOptions.{KvOptions}
use Rattle.mq_kv_run.specs.declared.ran.KvRun.{KvRun}
use Rattle.mq_kv_text.specs.declared.report.LastLine.TheVariants.{Clean}

module _ (x : DriveImage) (groups : List (List KvOp)) (o : KvOptions) (r : KvRun) (run : IsRunOf x groups o r) where
  -- what was known on the desk at the end, and its session there
  abbrev pub desk_of : Shared EmuPort KvEntry emu_ghosts
  desk_of = run.on.stops.drives.plays.ran.run.closed.end.known

  abbrev pub seat_of : Seat EmuPort KvEntry emu_ghosts
  seat_of = run.on.stops.drives.plays.ran.run.last

-- What a run leaves of its image, with the points behind the groups that are not cut off, and behind all that drew.
pub record LeavesImage (x : DriveImage) (r : KvRun) (last : Point) (off : Option (List KvOp))
    (newest : Point) : Type 0 where
  pub reached : Point
  pub at : IsReached x.geometry last off reached
  pub cut : IsCutAt x.geometry (view_of r.image) reached newest.number
  pub file : HasFault (image_bytes r.image) None
  pub recovered : (y z : DriveImage) → IsRead z (image_bytes r.image) → LeadsTo y z
      → HoldsHome x.geometry y reached.map
  pub rung : Point
  pub sent : IsReached x.geometry last off rung
  pub doorbell : (view_of r.image).doorbell 0 ≡ (view_of x).doorbell 0 + rung.entries
  pub others : (q : ℕ) → 0 < q → q < queues_of x.geometry
      → (view_of r.image).doorbell q ≡ (view_of x).doorbell q
  pub clean : (n : ℕ) → r.report.last ≡ Clean n
      → (n ≡ last.number) × (off ≡ None) × IsCleanAt x.geometry (view_of r.image) n
