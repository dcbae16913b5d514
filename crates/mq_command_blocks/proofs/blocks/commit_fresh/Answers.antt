use Rattle.std.proofs.Common.{◌≡◌, ℕ, List, Option, length, sym, ap, subst, arith}
use Rattle.mq_blocks.specs.Drive.{PortImage}
use Rattle.mq_drive.specs.Seats.{name_of, tickets_of}
use Rattle.mq_command_blocks.specs.Cuts.{StandsUnder}
use Rattle.mq_command_blocks.specs.Left.{IsLeft}
use Rattle.mq_command_blocks.proofs.CutsTexts.{IsClosed, doorbell_under, is_closed, prefix_stand}
use Rattle.mq_command_blocks.proofs.Left.{is_left, two_seats}
use Rattle.mq_command_blocks.proofs.blocks.commit_fresh.Goals as goal

pub close-requires-clause-fuse : goal.close-requires-clause-fuse
close-requires-clause-fuse c =
    let t = c.in_ok-left.ensures.stands in
    two_seats (name_of c.in_ok-fuse.fuse) t.queue_seat t.root_seat c.in_ok-left.left.seats.items t.seats_are t.queue_own t.root_own

pub close-requires-clause-all : goal.close-requires-clause-all
close-requires-clause-all c =
    let t = c.in_ok-left.ensures.stands in
    let long = ap length t.seats_are in
    let one = c.requires.geometry.queues in
    let ports = c.in_ok-fuse.ensures.fuse.1 in
    omega (arith, long, one, ports)

pub returns-clause-stands : goal.returns-clause-stands
returns-clause-stands c =
    let lines = c.args.text.now in
    let cut = c.args.cut in
    let t = c.in_ok-left.ensures.stands in
    let limit : (name_of c.in_ok-fuse.fuse).limit ≡ cut = c.in_ok-fuse.ensures.fuse.0 in
    let closed : IsClosed cut (tickets_of t.queue_seat) c.close.result =
    is_closed cut (name_of c.in_ok-fuse.fuse) c.in_ok-left.left.seats.items t.queue_seat t.root_seat c.close.result limit t.seats_are t.idle c.close.ensures.happened c.close.ensures.most c.close.ensures.off in
    let stands : StandsUnder lines cut (tickets_of t.queue_seat) t.queue.doorbell t.p = subst (λ (o : Option ℕ). StandsUnder lines o (tickets_of t.queue_seat) t.queue.doorbell t.p) limit t.stands in
    let left = is_left lines cut t.p c.args.geometry t.queue t.root c.requires.geometry t.queue_image t.root_image t.shows (doorbell_under lines cut (tickets_of t.queue_seat) t.queue.doorbell t.p c.close.result stands closed) in
    (t.p, prefix_stand lines cut (tickets_of t.queue_seat) t.queue.doorbell t.p c.close.result stands closed, subst (λ (l : List PortImage). IsLeft lines cut t.p (record { geometry = c.args.geometry; ports = l })) (sym t.images_are) left)

pub returns-clause-chosen : goal.returns-clause-chosen
returns-clause-chosen c = record {
  fuse = name_of c.in_ok-fuse.fuse;
  power = c.in_ok-fuse.ensures.fuse.0;
  seats = c.in_ok-left.left.seats.items;
  picked = c.in_ok-left.ensures.chosen;
}
