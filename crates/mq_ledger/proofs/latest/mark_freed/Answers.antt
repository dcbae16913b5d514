use Rattle.std.proofs.Common.{◌≡◌, ◌<◌, length, get_or, arith}
use Rattle.std.proofs.lemmas.List.{get_or_read}
use Rattle.mq_ledger.proofs.RecordsLists.{rising-high}
use Rattle.mq_ledger.proofs.latest.mark_freed.Goals as goal

pub put-requires : goal.put-requires
put-requires c =
    let inside : c.loop-block.block-index < length c.args.blocks.now = omega arith in
    let is : c.block-item.result ≡ get_or c.args.blocks.now c.loop-block.block-index 0 = get_or_read c.args.blocks.now c.loop-block.block-index c.block-item.result inside c.block-item.is 0 in
    let low = rising-high 0 (length c.args.table.now) c.args.blocks.now c.loop-block.block-index c.requires inside in
    omega arith
