use Rattle.std.proofs.Common.{◌∙◌, ◌++◌, ◌∷◌, [], List, ap, arith, drop, subst, sym}
use Rattle.std.specs.Option.{option_to_list}
use Rattle.std.specs.Vec.Iter.{into_iter_items}
use Rattle.mq_blocks.specs.Drive.{PortImage}
use Rattle.mq_image.specs.File.{DriveImage, queue_ports, root_port}
use Rattle.mq_image_ops.proofs.ViewsHomeBlocks.{AreTakenTo, next-taken, none-taken}
use Rattle.mq_image_ops.proofs.homes.take_homes.Goals as goal
use Rattle.mq_image_ops.proofs.homes.take_homes.Goals.{In-Some}

pub loop-queue-init : goal.loop-queue-init
loop-queue-init c =
    let is = c.image.view_is in
    let root = c.unwrap-root.result in
    none-taken c.image.inside.geometry c.args.image (into_iter_items c.into_iter-queue-iterator.result) root _ (ap (λ (x : DriveImage). x.geometry) is) c.requires
    (sym (ap (λ (x : DriveImage). x.ports) is) ∙ c.pop.ensures.items ∙ ap (λ o. c.pop.new.self.items ++ option_to_list o) c.unwrap-root.ensures ∙ ap (λ (l : List PortImage). l ++ root ∷ []) (sym c.into_iter-queue-iterator.ensures.into_iter_gives.0))
    (ap (λ (p : PortImage). p.blocks) c.root.view_is)

-- the port that is next
next : (c : In-Some) → AreTakenTo c.image.inside.geometry (root_port c.args.image).blocks (queue_ports c.args.image) (c.in-Some.queue ∷ into_iter_items c.next.new.self) c.loop-queue.blocks.items
next c = subst (λ (l : List PortImage). AreTakenTo c.image.inside.geometry (root_port c.args.image).blocks (queue_ports c.args.image) l c.loop-queue.blocks.items) c.in-Some.ensures.steps.0 c.loop-queue.invariant

pub append_zone-requires : goal.append_zone-requires
append_zone-requires c =
    let low = (next (goal.at.append_zone-requires c).In-Some).areas 0 c.in-Some.queue (omega arith) in
    let area = c.area.ensures in
    omega (arith, low, area)

pub loop-queue-preserved : goal.loop-queue-preserved
loop-queue-preserved c =
    next-taken c.image.inside.geometry (root_port c.args.image).blocks (queue_ports c.args.image) c.in-Some.queue (into_iter_items c.next.new.self) c.loop-queue.blocks.items c.append_zone.new.blocks.items (next (goal.at.loop-queue-preserved c).In-Some)
    (c.in_ok-append_zone.ensures ∙ ap (λ n. c.loop-queue.blocks.items ++ drop n c.in-Some.queue.blocks) c.area.ensures)
