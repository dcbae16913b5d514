use Rattle.std.proofs.Common.{◌+◌, length, ap, ◌∙◌, arith}
use Rattle.std.specs.List.{sum_by}
use Rattle.std.proofs.lemmas.List.{take_all}
use Rattle.std.proofs.lemmas.List.Sums.{sum_by-take-le, sum_by_more}
use Rattle.mq_tie.proofs.order.count_stored.Goals as goal

pub overflow_add-count : goal.overflow_add-count
overflow_add-count g c =
    let more = sum_by_more (λ s. length s.stored.items) c.args.sides.now c.loop-side.side-index c.side-item.result c.loop-side-test.true in
    let long = ap length c.stored.ensures in
    let item = ap (λ s. length s.stored.items) c.side-item.is in
    let bound = sum_by-take-le (λ s. length s.stored.items) c.args.sides.now (c.loop-side.side-index + 1) in
    let now = c.loop-side.invariant in
    let few = c.requires.few in
    omega arith

pub loop-side-preserved : goal.loop-side-preserved
loop-side-preserved g c =
    let more = sum_by_more (λ s. length s.stored.items) c.args.sides.now c.loop-side.side-index c.side-item.result c.loop-side-test.true in
    let long = ap length c.stored.ensures in
    let item = ap (λ s. length s.stored.items) c.side-item.is in
    let now = c.loop-side.invariant in
    omega arith

pub returns : goal.returns
returns g c = c.loop-side.invariant ∙ ap (sum_by (λ s. length s.stored.items)) (take_all c.loop-side.side-index c.args.sides.now c.loop-side-test.false)
