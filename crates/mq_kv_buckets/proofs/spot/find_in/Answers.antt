use Rattle.std.proofs.Common.{sym, arith}
use Rattle.mq_kv_buckets.proofs.Spots.{between-low, go-fits, go-less, searched-more, searched-none, spot-end, spot-equal, spot-greater, whole}
use Rattle.mq_kv_buckets.proofs.spot.find_in.Goals as goal

pub loop-lengths-init : goal.loop-lengths-init
loop-lengths-init c = searched-none _ c.args.key.now

pub lengths_at-requires : goal.lengths_at-requires
lengths_at-requires c =
    let size = whole c.args.bytes.now _ c.requires in
    record { whole = omega arith; at = between-low c.args.bytes.now _ c.loop-lengths.at c.requires c.loop-lengths.invariant.between }

pub key_at-requires : goal.key_at-requires
key_at-requires c =
    let size = whole c.args.bytes.now _ c.requires in
    let fits = go-fits c.args.bytes.now _ c.loop-lengths.at c.in-Some.lengths.key c.in-Some.lengths.value c.requires c.loop-lengths.invariant.between c.in-Some.ensures.0 c.in-Some.ensures.1 c.in-Some.ensures.2 in
    record { at = omega arith; inside = omega arith }

pub overflow_add-at : goal.overflow_add-at
overflow_add-at c =
    let fits = go-fits c.args.bytes.now _ c.loop-lengths.at c.in-Some.lengths.key c.in-Some.lengths.value c.requires c.loop-lengths.invariant.between c.in-Some.ensures.0 c.in-Some.ensures.1 c.in-Some.ensures.2 in
    let size = c.size-at.ensures in
    omega arith

pub loop-lengths-smaller : goal.loop-lengths-smaller
loop-lengths-smaller c =
    go-less c.args.bytes.now _ c.loop-lengths.at c.in-Some.lengths.key c.in-Some.lengths.value c.size-at.result c.requires c.loop-lengths.invariant.between c.in-Some.ensures.0 c.in-Some.ensures.1 c.in-Some.ensures.2 c.size-at.ensures

pub loop-lengths-preserved : goal.loop-lengths-preserved
loop-lengths-preserved c =
    searched-more c.args.bytes.now c.key_at.result.now _ c.args.key.now c.loop-lengths.at c.in-Some.lengths.key c.in-Some.lengths.value c.size-at.result c.requires c.loop-lengths.invariant c.in-Some.ensures.0 c.in-Some.ensures.1 c.key_at.ensures c.in-Some.ensures.2 c.size-at.ensures (sym c.in-Less.ensures)

pub returns-in-Equal : goal.returns-in-Equal
returns-in-Equal c = record {
  spot = spot-equal c.args.bytes.now c.key_at.result.now _ c.args.key.now c.loop-lengths.at c.in-Some.lengths.key c.in-Some.lengths.value c.size.result c.requires c.loop-lengths.invariant c.in-Some.ensures.0 c.in-Some.ensures.1 c.key_at.ensures c.in-Some.ensures.2 c.size.ensures (sym c.in-Equal.ensures);
  between = c.loop-lengths.invariant.between;
}

pub returns-in-Greater : goal.returns-in-Greater
returns-in-Greater c = record {
  spot = spot-greater c.args.bytes.now c.key_at.result.now _ c.args.key.now c.loop-lengths.at c.in-Some.lengths.key c.requires c.loop-lengths.invariant c.in-Some.ensures.0 c.key_at.ensures c.in-Some.ensures.2 (sym c.in-Greater.ensures);
  between = c.loop-lengths.invariant.between;
}

pub returns : goal.returns
returns c = record {
  spot = spot-end c.args.bytes.now _ c.args.key.now c.loop-lengths.at c.requires c.loop-lengths.invariant c.in_default.ensures;
  between = c.loop-lengths.invariant.between;
}
