use Rattle.std.proofs.Common.{inl, inr, refl}
use Rattle.std.proofs.lemmas.Result.{err_from_is_err_and}
use Rattle.mq_drive.specs.Emu.{emu_faults, emu_state}
use Rattle.mq_image_run.specs.Drives.{emu_ghosts}
use Rattle.mq_kv_run.proofs.Kept.{keeps-ports}
use Rattle.mq_kv_run.proofs.driving.play_on_ports.Goals as goal

pub returns-clause-ok : goal.returns-clause-ok
returns-clause-ok g c = record {
  standing = c.in_ok-standing.standing;
  stands = c.in_ok-standing.ensures.stands;
  opens = c.in_ok-standing.ensures.open;
  ran = c.in_ok-end.ensures.ok;
}

pub returns-clause-kept : goal.returns-clause-kept
returns-clause-kept g c =
    let kept = keeps-ports emu_ghosts emu_state emu_faults c.args.geometry c.args.ports c.in_ok-standing.standing c.args.groups.now c.args.finish c.in_ok-end.end c.in_ok-end.ensures.ok in
    record { same_ports = kept.0; bounds = kept.1 }

pub returns-in_err-standing-clause-refused : goal.returns-in_err-standing-clause-refused
returns-in_err-standing-clause-refused g c =
    let p = err_from_is_err_and c.from_residual.result c.from_residual.ensures.1 in
    rw (p.1, p.2) (inl refl)

pub returns-in_err-end-clause-refused : goal.returns-in_err-end-clause-refused
returns-in_err-end-clause-refused g c =
    let p = err_from_is_err_and c.from_residual-in_err-end.result c.from_residual-in_err-end.ensures.1 in
    rw (p.1, p.2) (inr (c.in_ok-standing.standing, c.in_ok-standing.ensures.stands, c.in_err-end.ensures.refused))
