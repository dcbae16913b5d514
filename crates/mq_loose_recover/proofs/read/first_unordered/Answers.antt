use Rattle.std.proofs.Common.{◌∙◌, ◌≡◌, ◌<◌, ◌≤◌, ◌⊎◌, inl, inr, length, get_or, sym, arith}
use Rattle.std.proofs.lemmas.List.{get_or_read}
use Rattle.mq_loose_recover.proofs.Numbers.{next_above-step, rising-step, unordered-stop}
use Rattle.mq_loose_recover.proofs.read.first_unordered.Goals as goal
use Rattle.mq_loose_recover.proofs.read.first_unordered.Goals.{then-number-low-via-then-number-low, then-number-low-via-else-number-low+then-number-limit}

pub returns-then-number-low : goal.returns-then-number-low
returns-then-number-low c =
    let l : c.loop-i.i < length c.args.numbers.now = omega arith in
    let e : c.number.inside.0 ≡ get_or c.args.numbers.now c.loop-i.i 0 = c.number.view_is ∙ get_or_read c.args.numbers.now c.loop-i.i c.index-numbers-i.result l c.index-numbers-i.is 0 in
    let w : (c.number.inside.0 < c.loop-i.low) ⊎ (c.args.limit ≤ c.number.inside.0) =
    elim c.then-number-low.branch [ then-number-low-via-then-number-low w ↦ inl w.if-number-low.true | then-number-low-via-else-number-low+then-number-limit w ↦ inr w.if-number-limit.true ] in
    unordered-stop 1 c.args.limit c.args.numbers.now c.loop-i.i c.number.inside.0 c.loop-i.low l e c.loop-i.invariant.0 c.loop-i.invariant.1 w

pub loop-i-preserved : goal.loop-i-preserved
loop-i-preserved c =
    let l : c.loop-i.i < length c.args.numbers.now = omega arith in
    let e : c.number.inside.0 ≡ get_or c.args.numbers.now c.loop-i.i 0 = c.number.view_is ∙ get_or_read c.args.numbers.now c.loop-i.i c.index-numbers-i.result l c.index-numbers-i.is 0 in
    let n = c.loop-i.invariant.0 in (
      sym (next_above-step 1 c.args.numbers.now c.loop-i.i c.number.inside.0 l e),
      rising-step 1 c.args.limit c.args.numbers.now c.loop-i.i c.number.inside.0 l e c.loop-i.invariant.1 (omega arith) c.if-number-limit.false,
    )
