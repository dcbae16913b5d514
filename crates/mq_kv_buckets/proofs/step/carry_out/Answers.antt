use Rattle.mq_kv_buckets.specs.Buckets.{records_of}
use Rattle.mq_kv_buckets.proofs.EditsMoved.{spot-inside}
use Rattle.mq_kv_buckets.proofs.step.carry_out.Goals as goal

pub remove-requires-clause-inside : goal.remove-requires-clause-inside
remove-requires-clause-inside c =
    spot-inside c.args.block.now (records_of c.args.block.now) _ c.args.place.spot.at c.args.place.spot.size c.args.place.end c.requires.formed c.requires.place.spot c.requires.place.end
