use Rattle.std.proofs.Common.{◌<◌, length, arith}
use Rattle.mq_image.proofs.File.{records-none, span-put}
use Rattle.mq_image.proofs.write.put_span.Goals as goal

pub loop-k-init : goal.loop-k-init
loop-k-init c = records-none _ _

pub loop-k-preserved : goal.loop-k-preserved
loop-k-preserved c =
    let l : c.loop-k.k < length c.args.blocks.now = omega arith in
    span-put c.args.lba c.loop-k.k c.args.blocks.now c.index-blocks-k.result _ _ _ l c.index-blocks-k.is c.loop-k.invariant c.in_ok-put_record.ensures
