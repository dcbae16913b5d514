use Rattle.std.proofs.Common.{◌<◌, length, arith}
use Rattle.mq_image.proofs.File.{count-none, count-more}
use Rattle.mq_image.proofs.write.count_span.Goals as goal

pub loop-block-init : goal.loop-block-init
loop-block-init c = (count-none, omega arith)

pub loop-block-preserved : goal.loop-block-preserved
loop-block-preserved c =
    let l : c.loop-block.block-index < length c.args.blocks.now = omega arith in
    let m = count-more c.args.blocks.now c.loop-block.block-index c.block-item.result l c.block-item.is in
    let e = c.count_one-count.ensures.is in
    let h = c.count_one-count.ensures.most in
    let i = c.loop-block.invariant.0 in
    let j = c.loop-block.invariant.1 in
    (omega arith, omega arith)
