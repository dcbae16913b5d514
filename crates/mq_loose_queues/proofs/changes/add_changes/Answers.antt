use Rattle.std.proofs.Common.{◌-◌, ◌<◌, length, arith}
use Rattle.std.proofs.lemmas.List.{get_or_read}
use Rattle.mq_loose.proofs.Lasts.{below_homes}
use Rattle.mq_loose_queues.proofs.changes.add_changes.Goals as goal

pub add_change-requires : goal.add_change-requires
add_change-requires c =
    let inside : c.loop-at.at - 1 < length c.args.blocks.now = omega arith in
    below_homes (length c.args.table.now) c.args.blocks.now (c.loop-at.at - 1) c.index-blocks-at.result c.requires inside (get_or_read c.args.blocks.now (c.loop-at.at - 1) c.index-blocks-at.result inside c.index-blocks-at.is 0)
