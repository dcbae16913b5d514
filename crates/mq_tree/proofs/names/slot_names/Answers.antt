use Rattle.mq_tree.proofs.DecodedNaming.{slot-good, slot-refused}
use Rattle.mq_tree.proofs.names.slot_names.Goals as goal

pub returns-in-Ok-Some : goal.returns-in-Ok-Some
returns-in-Ok-Some c = slot-good c.args.inodes.now c.args.block.now c.args.at c.in-Ok-Some.slot c.is_named.result (rw c.in-Ok-Some.field-0-is at c.in-Ok-Some.ensures.sound) c.is_named.ensures

pub returns-in-Err : goal.returns-in-Err
returns-in-Err c = slot-refused c.args.block.now c.args.at c.in-Err.field-0 c.requires.block c.requires.at c.in-Err.ensures.refused
