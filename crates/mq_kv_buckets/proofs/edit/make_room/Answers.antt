use Rattle.std.proofs.Common.{refl}
use Rattle.mq_kv_buckets.proofs.EditsMoved.{moved-grown, moved-shrunk}
use Rattle.mq_kv_buckets.proofs.edit.make_room.Goals as goal

pub returns-then-new_end-end : goal.returns-then-new_end-end
returns-then-new_end-end c =
    moved-shrunk c.args.bytes.now c.copy_within.new.self c.clear.new.bytes c.args.spot.at c.args.spot.size c.args.room c.args.end _ c.requires.whole c.requires.inside c.requires.end refl c.if-new_end-end.true c.requires.zeros c.copy_within.ensures.after c.clear.ensures

pub returns-else-new_end-end : goal.returns-else-new_end-end
returns-else-new_end-end c =
    moved-grown c.args.bytes.now c.copy_within.new.self c.args.spot.at c.args.spot.size c.args.room c.args.end _ c.requires.whole c.requires.inside c.requires.end refl c.requires.fits c.if-new_end-end.false c.requires.zeros c.copy_within.ensures.after
