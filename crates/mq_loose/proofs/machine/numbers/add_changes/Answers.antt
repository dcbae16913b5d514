use Rattle.std.proofs.Common.{◌-◌, ◌<◌, length, arith}
use Rattle.std.proofs.lemmas.List.{get_or_read}
use Rattle.mq_blocks.specs.Geometry.{homes_of}
use Rattle.mq_loose.proofs.Lasts.{below_homes}
use Rattle.mq_loose.proofs.machine.numbers.add_changes.Goals as goal

pub add_change-requires-clause-block : goal.add_change-requires-clause-block
add_change-requires-clause-block c =
    let inside : c.loop-at.at - 1 < length c.args.blocks.now = omega arith in
    below_homes (homes_of c.args.ledger.now.geometry) c.args.blocks.now (c.loop-at.at - 1) c.index-blocks-at.result c.requires.blocks inside (get_or_read c.args.blocks.now (c.loop-at.at - 1) c.index-blocks-at.result inside c.index-blocks-at.is 0)
