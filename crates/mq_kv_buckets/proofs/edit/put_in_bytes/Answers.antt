use Rattle.std.proofs.Common.{refl, arith}
use Rattle.mq_kv_buckets.specs.Buckets.{records_of}
use Rattle.mq_kv_buckets.proofs.EditsMoved.{around, put-result, size-put, zeros-from}
use Rattle.mq_kv_buckets.proofs.Spots.{whole}
use Rattle.mq_kv_buckets.proofs.edit.put_in_bytes.Goals as goal

pub make_room-requires : goal.make_room-requires
make_room-requires c =
    let a = around c.args.bytes.now (records_of c.args.bytes.now) c.args.key.now c.args.spot.at c.args.spot.size c.requires.formed c.requires.spot in
    let sum = a.sum in
    let end = c.requires.end in
    let few = c.requires.formed.fits in
    let size = size-put c.args.bytes.now (records_of c.args.bytes.now) c.args.key.now c.args.value.now c.args.spot.at c.args.spot.size c.requires.formed c.requires.spot in
    let fits = c.requires.fits in
    record {
      whole = whole c.args.bytes.now (records_of c.args.bytes.now) c.requires.formed;
      inside = omega arith;
      end = omega arith;
      fits = omega arith;
      zeros = zeros-from c.args.bytes.now (records_of c.args.bytes.now) c.args.end c.requires.formed c.requires.end;
    }

pub put_record-requires-clause-fits : goal.put_record-requires-clause-fits
put_record-requires-clause-fits c =
    let a = around c.args.bytes.now (records_of c.args.bytes.now) c.args.key.now c.args.spot.at c.args.spot.size c.requires.formed c.requires.spot in
    let sum = a.sum in
    let size = size-put c.args.bytes.now (records_of c.args.bytes.now) c.args.key.now c.args.value.now c.args.spot.at c.args.spot.size c.requires.formed c.requires.spot in
    let fits = c.requires.fits in
    let same = c.make_room.ensures.whole in
    let l = whole c.args.bytes.now (records_of c.args.bytes.now) c.requires.formed in
    omega arith

pub returns : goal.returns
returns c =
    put-result c.args.bytes.now c.make_room.new.bytes c.put_record.new.bytes (records_of c.args.bytes.now) c.args.key.now c.args.value.now c.args.spot.at c.args.spot.size _ c.args.end c.requires.formed c.requires.spot c.requires.end refl c.make_room.ensures c.put_record.ensures
