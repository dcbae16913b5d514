use Rattle.std.proofs.Common.{◌≡◌, ◌<◌, ◌∙◌, ℕ, zero-add, refl, sym, ap, length, take, arith}
use Rattle.mq_blocks.specs.Drive.{PortImage}
use Rattle.mq_blocks.specs.Geometry.{area_of}
use Rattle.mq_image.proofs.File.{flat-room, records-none, part-put, part-length}
use Rattle.mq_image.proofs.write.put_areas.Goals as goal

pub loop-port-init : goal.loop-port-init
loop-port-init c = (refl, records-none _ _)

pub put_span-requires : goal.put_span-requires
put_span-requires c =
    let l : c.loop-port.port-index < length c.args.queues.now = omega arith in
    let m = flat-room (λ (p : PortImage). take (area_of c.args.geometry) p.blocks) c.args.queues.now c.loop-port.port-index c.port-item.result l c.port-item.is in
    let n : length c.area_blocks.result.now ≡ length (take (area_of c.args.geometry) c.port-item.result.blocks) = ap length (c.area_blocks.ensures ∙ ap (λ (k : ℕ). take k c.port-item.result.blocks) c.area.ensures) in
    let i = c.loop-port.invariant.0 in
    let r = c.requires.size in
    omega arith

pub loop-port-preserved : goal.loop-port-preserved
loop-port-preserved c =
    let l : c.loop-port.port-index < length c.args.queues.now = omega arith in
    let f = λ (p : PortImage). take (area_of c.args.geometry) p.blocks in
    let b : c.area_blocks.result.now ≡ f c.port-item.result = c.area_blocks.ensures ∙ ap (λ (k : ℕ). take k c.port-item.result.blocks) c.area.ensures in
    (part-length f 0 c.loop-port.lba c.in_ok-lba.lba c.loop-port.port-index c.args.queues.now c.port-item.result _ l c.port-item.is b (c.loop-port.invariant.0 ∙ sym (zero-add _)) c.in_ok-lba.ensures.end ∙ zero-add _, part-put f 0 c.loop-port.lba c.loop-port.port-index c.args.queues.now c.port-item.result _ _ _ _ l c.port-item.is b (c.loop-port.invariant.0 ∙ sym (zero-add _)) c.loop-port.invariant.1 c.in_ok-lba.ensures.bytes)
