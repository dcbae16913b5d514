use Rattle.std.proofs.Common.{◌<◌, length, arith}
use Rattle.std.proofs.lemmas.List.{get_or_read}
use Rattle.mq_loose.proofs.Lasts.{below_homes}
use Rattle.mq_loose_queues.proofs.changes.note.Goals as goal

pub bounds-table-block-inside : goal.bounds-table-block-inside
bounds-table-block-inside c =
    let inside : c.loop-block.block-index < length c.args.blocks.now = omega arith in
    let low = below_homes (length c.args.table.now) c.args.blocks.now c.loop-block.block-index c.block-item.result c.requires inside (get_or_read c.args.blocks.now c.loop-block.block-index c.block-item.result inside c.block-item.is 0) in
    omega (arith, low, c.block.view_is, c.loop-block.invariant.whole)
