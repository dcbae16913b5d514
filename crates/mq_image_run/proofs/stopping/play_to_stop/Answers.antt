use Rattle.std.proofs.Common.{◌∙◌, sym}
use Rattle.mq_drive.specs.Seats.{name_of}
use Rattle.mq_image_run.proofs.Powered.{never-off, no-faults}
use Rattle.mq_image_run.proofs.Seats.{all-seats, off-seat, own-seats, sum-is}
use Rattle.mq_image_run.proofs.stopping.play_to_stop.Goals as goal

pub close-events-requires-clause-fuse : goal.close-events-requires-clause-fuse
close-events-requires-clause-fuse g c =
    let d = c.in_ok-driven.driven in
    own-seats _ (name_of c.args.fuse) c.args.recovered.image c.requires.recovery.1.drive c.args.options d.played d.failed d.images.items c.in_ok-driven.seats.items c.in_ok-driven.ensures.ok

pub close-events-requires-clause-all : goal.close-events-requires-clause-all
close-events-requires-clause-all g c =
    let d = c.in_ok-driven.driven in
    all-seats _ (name_of c.args.fuse) c.args.recovered.image c.requires.recovery.1.drive c.args.options d.played d.failed d.images.items c.in_ok-driven.seats.items c.in_ok-driven.ensures.ok ∙ sym c.requires.ports

pub returns-clause-ok : goal.returns-clause-ok
returns-clause-ok g c =
    let fuse = name_of c.args.fuse in
    let y = c.args.recovered.image in
    let drive = c.requires.recovery.1.drive in
    let o = c.args.options in
    let d = c.in_ok-driven.driven in
    let images = d.images.items in
    let seats = c.in_ok-driven.seats.items in
    let drives = c.in_ok-driven.ensures.ok in
    let close = c.close-events.ensures in
    record {
      seats = seats;
      drives = drives;
      happened = λ l limit. (close.happened l limit ∙ sum-is _ fuse y drive o d.played d.failed images seats drives l limit, close.most l limit);
      off = λ l p limit own off. let at = off-seat _ fuse y drive o d.played d.failed images seats drives l p limit own off in close.off l at.0 limit at.1 at.2;
      powered = λ p none own. never-off _ fuse y drive o d.played d.failed images seats drives none p own;
      sound = λ p none fine own. no-faults _ fuse y drive o d.played d.failed images seats drives none fine p own;
    }
