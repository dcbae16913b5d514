use Rattle.std.proofs.Common.{◌≡◌, ◌<◌, ◌+◌, ◌∙◌, List, sym, ap, subst, arith}
use Rattle.std.specs.List.{remove}
use Rattle.mq_blocks.specs.Drive.{PortImage}
use Rattle.mq_blocks.specs.Geometry.{queues_of}
use Rattle.mq_drive.specs.Emu.{emu_state}
use Rattle.mq_drive.specs.Emulated.{Counts}
use Rattle.mq_drive.specs.Seats.{name_of}
use Rattle.mq_drive.specs.Start.{start_of}
use Rattle.mq_drive.specs.declared.fuse.FuseSeat.{FuseSeat}
use Rattle.mq_drive.specs.declared.role.Role.TheVariants.{Queue}
use Rattle.mq_image.specs.File.{DriveImage}
use Rattle.mq_image_ops.specs.Views.{port_from}
use Rattle.mq_image_ops.proofs.Starts.{AreStartedTo, image-of, more-seeded, more-started, next-image, size-of}
use Rattle.mq_image_ops.proofs.ports.start_ports.Goals as goal

pub new-requires-clause-image : goal.new-requires-clause-image
new-requires-clause-image c =
    let g = c.image.inside.geometry in
    let same : g ≡ c.args.image.geometry = ap (λ (x : DriveImage). x.geometry) c.image.view_is in
    let end = c.queues-q-end.ensures in
    let test = c.loop-q-test.true in
    image-of g c.args.image c.remove-image.result c.loop-q.q c.requires.image same (omega arith)
    (next-image g (name_of c.args.fuse.now) c.args.fail c.args.image.ports c.loop-q.q c.loop-q.queues.items c.loop-q.images.items c.loop-q.seats.items c.loop-q.invariant.0 (size-of g c.args.image c.requires.image same) (omega arith) c.remove-image.result c.remove-image.ensures.value c.remove-seat.result c.remove-seat.ensures.value)

pub loop-q-preserved : goal.loop-q-preserved
loop-q-preserved c =
    let g = c.image.inside.geometry in
    let same : g ≡ c.args.image.geometry = ap (λ (x : DriveImage). x.geometry) c.image.view_is in
    let end = c.queues-q-end.ensures in
    let test = c.loop-q-test.true in
    let low : c.loop-q.q < queues_of g = omega arith in
    let state : emu_state c.in_ok-new.field-0 ≡ port_from g (name_of c.args.fuse.now) c.args.fail (Queue c.loop-q.q) c.remove-image.result =
    c.in_ok-new.ensures.state ∙ ap (start_of g (Queue c.loop-q.q) c.remove-image.result (name_of c.args.fuse.now)) c.failing_of-command.ensures in
    let next = more-started g (name_of c.args.fuse.now) c.args.fail c.args.image.ports c.loop-q.q c.loop-q.queues.items c.loop-q.images.items c.loop-q.seats.items c.loop-q.invariant.0 (size-of g c.args.image c.requires.image same) (omega arith)
    c.remove-image.result c.remove-image.ensures.value c.remove-seat.result c.remove-seat.ensures.value
    c.in_ok-new.field-0 c.push.new.self.items low state (record { faults = c.in_ok-new.ensures.faults; tickets = c.in_ok-new.ensures.tickets.0; executed = ap (λ (n : Counts). n.executed) c.in_ok-new.ensures.counts }) c.in_ok-push.ensures.items in
    let seeded = more-seeded g c.args.seed c.loop-q.q c.loop-q.queues.items c.push.new.self.items c.in_ok-new.field-0 c.loop-q.invariant.1 c.in_ok-new.ensures.chance c.in_ok-push.ensures.items in (
      subst (λ (l : List PortImage). AreStartedTo g (name_of c.args.fuse.now) c.args.fail c.args.image.ports (c.loop-q.q + 1) c.push.new.self.items l c.remove-seat.new.self.items) (sym c.remove-image.ensures.items)
          (subst (λ (l : List FuseSeat). AreStartedTo g (name_of c.args.fuse.now) c.args.fail c.args.image.ports (c.loop-q.q + 1) c.push.new.self.items (remove c.loop-q.images.items 0) l) (sym c.remove-seat.ensures.items) next),
      seeded,
    )
