use Rattle.std.proofs.lemmas.Result.{err_from_is_err_and}
use Rattle.mq_run_laws.proofs.DrivesMounting.{not-played}
use Rattle.mq_run_laws.proofs.playing.play_scripts.Goals as goal

pub returns-in_err-standing-clause-refused : goal.returns-in_err-standing-clause-refused
returns-in_err-standing-clause-refused g c =
    let p = err_from_is_err_and c.from_residual.result c.from_residual.ensures.1 in
    rw (p.1, p.2) (not-played c.args.geometry c.args.ports c.in_err-standing.field-0.0 c.in_err-standing.ensures.refused)

pub returns-clause-ok : goal.returns-clause-ok
returns-clause-ok g c = record {
  standing = c.in_ok-standing.standing;
  stands = c.in_ok-standing.ensures.stands;
  opens = c.in_ok-standing.ensures.open;
  rest = c.in-Ok.end;
  ran = c.in-Ok.ensures.run;
}

pub returns-clause-kept : goal.returns-clause-kept
returns-clause-kept g c =
    let kept = c.a_run_keeps_its_ports.ensures c.args.geometry c.args.ports c.in_ok-standing.standing c.args.scripts.now c.args.finish c.in-Ok.end c.in-Ok.ensures.run in
    record { same_ports = kept.0; bounds = kept.1 }
