-- A run keeps its promise, by how the history of its desk follows what is told of its groups.
use Rattle.std.proofs.Common.{◌≡◌, ◌≢◌, List, [], Option, None, inl, inr, refl, sym, subst}
use Rattle.std.specs.List.{Contains}
use Rattle.mq_blocks.specs.declared.geometry.Geometry.{Geometry}
use Rattle.mq_drive.specs.Emu.{emu_faults, emu_state}
use Rattle.mq_image.specs.File.{DriveImage}
use Rattle.mq_kv_buckets.specs.declared.operation.KvOp.{KvOp}
use Rattle.mq_sessions.proofs.Members.{cons-here, cons-there}
use Rattle.mq_kv_run.specs.Images.{LeavesImage, desk_of, seat_of}
use Rattle.mq_kv_run.specs.Trails.{FollowsTold, IsNewest}
use Rattle.mq_kv_run.proofs.ImagePower.{ends, gone-off, holds}
use Rattle.mq_kv_run.proofs.ImageViews.{leaves}
use Rattle.mq_kv_run.specs.Groups.{AreTold, IsReached, Point, cut_off, next, whole, with_cut, without}
use Rattle.mq_kv_run.specs.Promise.{KeepsPromise, first_point}
use Rattle.mq_kv_run.specs.Runs.{IsRunOf}
use Rattle.mq_kv_run.specs.declared.options.KvOptions.{KvOptions}
use Rattle.mq_kv_run.specs.declared.ran.KvRun.{KvRun}
use Rattle.mq_kv_run.proofs.Stores.{groups-leave}
use Rattle.mq_kv_text.specs.declared.report.GroupReport.{GroupReport}
use Rattle.mq_kv_text.specs.declared.report.GroupReport.TheVariants.{Off}

-- a group that was cut off is reported so
told-off : (g : Geometry) (p last : Point) (groups : List (List KvOp)) (reports : List GroupReport) (off : Option (List KvOp)) → AreTold g p groups reports off last → off ≢ None → Contains reports Off
told-off g p last _ _ _ (whole _) some = absurd (some refl)
told-off g p last _ _ _ (cut_off _ ops groups count writes few) some = cons-here Off [] Off refl
told-off g p last _ _ _ (next _ q _ ops groups r reports off one more) some = cons-there r reports Off (told-off g q last groups reports off more some)

-- the newest point is behind the groups that were told of, or behind the one that was cut off
newest-drawn : (g : Geometry) (last newest : Point) (off : Option (List KvOp)) → (newest ≡ last) → IsReached g last off newest
newest-drawn g last newest off same = subst (λ (p : Point). IsReached g last off p) (sym same) (without off)

module _ (x : DriveImage) (groups : List (List KvOp)) (o : KvOptions) (r : KvRun) (run : IsRunOf x groups o r) where
  abbrev first : Point
  first = first_point x run.on.recovery.ds run.on.recovery.top

  drawn-by : (last newest : Point) (off : Option (List KvOp)) → IsNewest emu_state emu_faults x.geometry (desk_of x groups o r run) last off newest → IsReached x.geometry last off newest
  drawn-by last newest off (inl is) = newest-drawn x.geometry last newest off is.0
  drawn-by last newest off (inr c) = subst (λ (z : Option (List KvOp)). IsReached x.geometry last z newest) (sym c.off_is) (with_cut c.ops newest c.commit)

  pub keeps-promise : (off : Option (List KvOp)) (last newest : Point) → AreTold x.geometry first groups r.report.groups off last → FollowsTold emu_state emu_faults x.geometry (desk_of x groups o r run) (seat_of x groups o r run) last off newest → KeepsPromise x groups o r
  keeps-promise off last newest told follows =
      let image : LeavesImage x r last off newest = leaves x groups o r run last newest off follows (λ some. let gone = gone-off x groups o r run (told-off x.geometry first last groups r.report.groups off told some) in (gone.k, gone.asked)) in
      record {
        ds = run.on.recovery.ds;
        top = run.on.recovery.top;
        holds = holds x groups o r run;
        off = off;
        last = last;
        told = told;
        store = (groups-leave x.geometry first last groups r.report.groups off told run.formed).1;
        power = λ again some. gone-off x groups o r again (told-off x.geometry first last groups r.report.groups off told some);
        end = λ again. ends x groups o r again;
        newest = newest;
        drawn = drawn-by last newest off follows.newest_is;
        reached = image.reached;
        at = image.at;
        cut = image.cut;
        file = image.file;
        recovered = image.recovered;
        rung = image.rung;
        sent = image.sent;
        doorbell = image.doorbell;
        others = image.others;
        clean = image.clean;
      }
