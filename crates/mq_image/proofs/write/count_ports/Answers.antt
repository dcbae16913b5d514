use Rattle.std.proofs.Common.{◌≡◌, ◌<◌, ◌∙◌, ◌+◌, ap, length, take, arith, length-append}
use Rattle.mq_blocks.specs.Drive.{PortImage}
use Rattle.mq_image.specs.File.{all_blocks, record_count}
use Rattle.mq_image.proofs.PlacesSpans.{record_count-append}
use Rattle.mq_image.proofs.File.{count-none, flat-more, flat-room}
use Rattle.mq_image.proofs.write.count_ports.Goals as goal

pub loop-port-init : goal.loop-port-init
loop-port-init c = (count-none, omega arith)

pub count_port-count-requires : goal.count_port-count-requires
count_port-count-requires c =
    let l : c.loop-port.port-index < length c.args.ports.now = omega arith in
    let m = flat-room (λ (p : PortImage). p.blocks) c.args.ports.now c.loop-port.port-index c.port-item.result l c.port-item.is in
    omega arith

pub overflow_add-count : goal.overflow_add-count
overflow_add-count c =
    let l : c.loop-port.port-index < length c.args.ports.now = omega arith in
    let m = flat-room (λ (p : PortImage). p.blocks) c.args.ports.now c.loop-port.port-index c.port-item.result l c.port-item.is in
    let h = c.count_port-count.ensures.most in
    let j = c.loop-port.invariant.1 in
    omega arith

pub loop-port-preserved : goal.loop-port-preserved
loop-port-preserved c =
    let l : c.loop-port.port-index < length c.args.ports.now = omega arith in
    let t = flat-more (λ (p : PortImage). p.blocks) c.args.ports.now c.loop-port.port-index c.port-item.result l c.port-item.is in
    let r : record_count (all_blocks (take (c.loop-port.port-index + 1) c.args.ports.now)) ≡ record_count (all_blocks (take c.loop-port.port-index c.args.ports.now)) + record_count c.port-item.result.blocks =
    ap record_count t ∙ record_count-append (all_blocks (take c.loop-port.port-index c.args.ports.now)) c.port-item.result.blocks in
    let n : length (all_blocks (take (c.loop-port.port-index + 1) c.args.ports.now)) ≡ length (all_blocks (take c.loop-port.port-index c.args.ports.now)) + length c.port-item.result.blocks =
    ap length t ∙ length-append (all_blocks (take c.loop-port.port-index c.args.ports.now)) c.port-item.result.blocks in
    let e = c.count_port-count.ensures.is in
    let h = c.count_port-count.ensures.most in
    let i = c.loop-port.invariant.0 in
    let j = c.loop-port.invariant.1 in
    (omega arith, omega arith)
