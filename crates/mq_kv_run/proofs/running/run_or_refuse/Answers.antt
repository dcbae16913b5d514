use Rattle.std.proofs.Common.{refl}
use Rattle.std.proofs.lemmas.Result.{err_from_is_err_and}
use Rattle.mq_drive.specs.Emu.{emu_faults, emu_state}
use Rattle.mq_image_run.specs.Drives.{emu_ghosts}
use Rattle.mq_kv_run.specs.Endings.{drive_options, finishes}
use Rattle.mq_kv_run.specs.Refusals.{wanting}
use Rattle.mq_kv_run.proofs.Backed.{stop-behind}
use Rattle.mq_kv_run.proofs.Left.{formed-there, not-refused}
use Rattle.mq_kv_run.proofs.running.run_or_refuse.Goals as goal

pub last_line-requires-clause-power : goal.last_line-requires-clause-power
last_line-requires-clause-power g c = λ none stopped.
    not-refused c.args.image c.args.groups.now (finishes c.args.options.cut) (drive_options c.args.options) c.in_ok-left.left c.in_ok-left.ensures.ok none refl
    (λ d ports s groups finish e why run is. stop-behind emu_ghosts emu_state emu_faults d ports s groups finish e why run is) stopped.0 stopped.1

pub returns-in_err-last-clause-refused : goal.returns-in_err-last-clause-refused
returns-in_err-last-clause-refused g c =
    let p = err_from_is_err_and c.from_residual-in_err-last.result c.from_residual-in_err-last.ensures.1 in
    rw (p.1, p.2) wanting

pub returns-clause-ok : goal.returns-clause-ok
returns-clause-ok g c =
    let left = c.in_ok-left.left in
    let on = c.in_ok-left.ensures.ok in
    let drives = on.stops.drives in
    record {
      base = left.base;
      played = left.played;
      failed = left.failed;
      events = left.events;
      on = on;
      formed = formed-there c.args.image on.recovered on.recovery c.a_recovered_image_holds_what_stood.ensures.blocks on.fuse drives.ports drives.plays.standing drives.started drives.plays.stands drives.plays.ran.formed;
      reports = refl;
      last = c.in_ok-last.ensures;
    }
