use Rattle.std.proofs.Common.{◌∙◌}
use Rattle.mq_drive.specs.Seats.{name_of}
use Rattle.mq_image_run.proofs.DrivesNamed.{named-is}
use Rattle.mq_image_run.proofs.Starts.{ready}
use Rattle.mq_image_run.proofs.driving.play_on_drive.Goals as goal

pub play-requires : goal.play-requires
play-requires g c =
    let starts = c.a_recovered_image_starts.ensures in
    c.requires.may c.in_ok-ports.ports
    (ready starts.still starts.start c.a_recovered_image_holds_what_stood.ensures.prefix c.requires.recovery.0 c.args.recovered (name_of c.args.fuse.now) c.args.options.fail c.in_ok-ports.ports c.requires.recovery.1 c.in_ok-ports.ensures.drive c.requires.base)

pub returns-in-Err-clause-refused : goal.returns-in-Err-clause-refused
returns-in-Err-clause-refused g c = (c.in_ok-ports.ports, c.in_ok-ports.ensures.drive, c.in-Err.ensures)

pub returns-clause-ok : goal.returns-clause-ok
returns-clause-ok g c =
    let ports = c.in_ok-ports.ports in
    let end = c.in-Ok.end in
    let drive = c.in_ok-ports.ensures.drive in
    let kept = c.requires.keeps ports end c.in-Ok.ensures in
    record {
      ports = ports;
      started = drive;
      seeded = c.in_ok-ports.ensures.chance;
      end = end.1;
      plays = c.in-Ok.ensures;
      kept = kept;
      any_failed = c.any_failed-failed.ensures;
      named = c.any_failed-failed.ensures ∙ named-is (name_of c.args.fuse.now) c.args.options.fail c.args.recovered.image c.requires.recovery.1.drive ports end.1 drive kept;
      cut = c.in_ok-images.ensures;
    }
