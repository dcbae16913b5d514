use Rattle.std.proofs.Common.{arith}
use Rattle.mq_kv_buckets.proofs.Spots.{at-end, between-low, go-fits, go-less, go-on, whole}
use Rattle.mq_kv_buckets.proofs.spot.end_in.Goals as goal

pub lengths_at-requires : goal.lengths_at-requires
lengths_at-requires c =
    let size = whole c.args.bytes.now _ c.requires.formed in
    record { whole = omega arith; at = between-low c.args.bytes.now _ c.loop-lengths.at c.requires.formed c.loop-lengths.invariant }

pub overflow_add-at : goal.overflow_add-at
overflow_add-at c =
    let fits = go-fits c.args.bytes.now _ c.loop-lengths.at c.in-Some.lengths.key c.in-Some.lengths.value c.requires.formed c.loop-lengths.invariant c.in-Some.ensures.0 c.in-Some.ensures.1 c.in-Some.ensures.2 in
    let size = c.size-at.ensures in
    omega arith

pub loop-lengths-smaller : goal.loop-lengths-smaller
loop-lengths-smaller c =
    go-less c.args.bytes.now _ c.loop-lengths.at c.in-Some.lengths.key c.in-Some.lengths.value c.size-at.result c.requires.formed c.loop-lengths.invariant c.in-Some.ensures.0 c.in-Some.ensures.1 c.in-Some.ensures.2 c.size-at.ensures

pub loop-lengths-preserved : goal.loop-lengths-preserved
loop-lengths-preserved c =
    go-on c.args.bytes.now _ c.loop-lengths.at c.in-Some.lengths.key c.in-Some.lengths.value c.size-at.result c.requires.formed c.loop-lengths.invariant c.in-Some.ensures.0 c.in-Some.ensures.1 c.in-Some.ensures.2 c.size-at.ensures

pub returns : goal.returns
returns c = at-end c.args.bytes.now _ c.loop-lengths.at c.requires.formed c.loop-lengths.invariant c.in_default.ensures
