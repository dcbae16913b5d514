use Rattle.std.proofs.Common.{arith}
use Rattle.mq_kv_buckets.specs.Buckets.{records_of}
use Rattle.mq_kv_buckets.proofs.EditsMoved.{remove-result, zeros-from}
use Rattle.mq_kv_buckets.proofs.Spots.{whole}
use Rattle.mq_kv_buckets.proofs.edit.remove_in_bytes.Goals as goal

pub make_room-requires : goal.make_room-requires
make_room-requires c =
    let end = c.requires.end in
    let few = c.requires.formed.fits in
    record {
      whole = whole c.args.bytes.now (records_of c.args.bytes.now) c.requires.formed;
      inside = c.requires.inside;
      end = omega arith;
      fits = omega arith;
      zeros = zeros-from c.args.bytes.now (records_of c.args.bytes.now) c.args.end c.requires.formed c.requires.end;
    }

pub returns : goal.returns
returns c = λ key spot. remove-result c.args.bytes.now c.make_room.new.bytes (records_of c.args.bytes.now) key c.args.spot.at c.args.spot.size c.args.end c.requires.formed spot c.requires.end c.make_room.ensures
