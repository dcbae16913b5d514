use Rattle.std.proofs.Common.{refl, arith}
use Rattle.mq_kv_buckets.proofs.EditsMoved.{size-put, spot-inside}
use Rattle.mq_kv_buckets.proofs.StepsTaken.{fine-reply, full-reply}
use Rattle.mq_kv_buckets.proofs.step.plan_put.Goals as goal

pub overflow_sub-place : goal.overflow_sub-place
overflow_sub-place c =
    let inside = spot-inside _ _ c.args.key.now _ _ c.place_of-place.result.end c.requires.formed c.place_of-place.ensures.spot c.place_of-place.ensures.end in
    omega arith

pub returns-then-place-key-gt-BUCKET_SIZE : goal.returns-then-place-key-gt-BUCKET_SIZE
returns-then-place-key-gt-BUCKET_SIZE c =
    let size = size-put _ _ c.args.key.now c.args.value.now _ _ c.requires.formed c.place_of-place.ensures.spot in
    let end = c.place_of-place.ensures.end in
    let more = c.if-place-key-gt-BUCKET_SIZE.true in
    (full-reply c.args.key.now c.args.value.now _ c.if-value-gt-VALUE_LIMIT.false (omega arith), refl)

pub returns : goal.returns
returns c =
    let size = size-put _ _ c.args.key.now c.args.value.now _ _ c.requires.formed c.place_of-place.ensures.spot in
    let end = c.place_of-place.ensures.end in
    let few = c.if-place-key-gt-BUCKET_SIZE.false in
    (fine-reply c.args.key.now c.args.value.now _ c.if-value-gt-VALUE_LIMIT.false (omega arith), c.place_of-place.ensures)
