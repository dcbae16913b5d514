-- A run keeps its promise.
use Rattle.std.proofs.Common.{◌≡◌, List, sym, subst}
use Rattle.mq_drive.specs.Emu.{emu_faults, emu_state}
use Rattle.mq_drive.specs.declared.emu.EmuPort.{EmuPort}
use Rattle.mq_image.specs.File.{DriveImage}
use Rattle.mq_kv_buckets.specs.declared.operation.KvOp.{KvOp}
use Rattle.mq_image_run.specs.Drives.{emu_ghosts}
use Rattle.mq_kv_run.specs.Drives.{with_told}
use Rattle.mq_kv_run.specs.Endings.{finishes}
use Rattle.mq_kv_run.specs.Groups.{AreTold, Point}
use Rattle.mq_kv_run.specs.Promise.{KeepsPromise, first_point}
use Rattle.mq_kv_run.specs.Runs.{IsRunOf}
use Rattle.mq_kv_run.specs.declared.options.KvOptions.{KvOptions}
use Rattle.mq_kv_run.specs.declared.ran.KvRun.{KvRun}
use Rattle.mq_kv_run.specs.declared.storing.StoreEnd.{StoreEnd}
use Rattle.mq_kv_text.specs.declared.report.GroupReport.{GroupReport}
use Rattle.mq_kv_run.proofs.ImagePromise.{keeps-promise}
use Rattle.mq_kv_run.proofs.ImageViews.{first-at}
use Rattle.mq_kv_run.proofs.ToldFollows.{Follows, follows}

module _ (x : DriveImage) (groups : List (List KvOp)) (o : KvOptions) (r : KvRun) (run : IsRunOf x groups o r) where
  abbrev end : StoreEnd EmuPort
  end = with_told run.on.stops.drives.end run.played

  abbrev first : Point
  first = first_point x run.on.recovery.ds run.on.recovery.top

  follow : Follows emu_ghosts emu_state emu_faults x.geometry run.on.stops.drives.ports run.on.stops.drives.plays.standing run.on.stops.drives.plays.ran.opening groups (finishes o.cut) end run.on.stops.drives.plays.ran.opened run.on.stops.drives.plays.ran.run first
  follow =
      follows emu_ghosts emu_state emu_faults x.geometry run.on.stops.drives.ports run.on.stops.drives.plays.standing run.on.stops.drives.plays.ran.opening groups (finishes o.cut) end run.on.stops.drives.plays.ran.opened run.on.stops.drives.plays.ran.run
      first (first-at x groups o r run)

  reports-are : end.reports.items ≡ r.report.groups
  reports-are = sym run.reports

  told : AreTold x.geometry first groups r.report.groups follow.off follow.last
  told = subst (λ (reports : List GroupReport). AreTold x.geometry first groups reports follow.off follow.last) reports-are follow.told

  pub keeps : KeepsPromise x groups o r
  keeps = keeps-promise x groups o r run follow.off follow.last follow.newest told follow.follows
