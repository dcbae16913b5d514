use Rattle.std.proofs.Common.{◌∙◌, ◌≡◌, ◌<◌, ◌≤◌, ◌⊎◌, inl, inr, length, get_or, sym, arith}
use Rattle.std.proofs.lemmas.List.{get_or_read}
use Rattle.mq_area.proofs.DescriptorRising.{unordered-stop, rising-step, next_above-step}
use Rattle.mq_area.proofs.lists.first_unordered.Goals as goal
use Rattle.mq_area.proofs.lists.first_unordered.Goals.{then-b-low-via-then-b-low, then-b-low-via-else-b-low+then-b-homes}

pub returns-then-b-low : goal.returns-then-b-low
returns-then-b-low c =
    let l : c.loop-i.i < length c.args.list.now = omega arith in
    let e : c.b.inside.0 ≡ get_or c.args.list.now c.loop-i.i 0 = c.b.view_is ∙ get_or_read c.args.list.now c.loop-i.i c.index-list-i.result l c.index-list-i.is 0 in
    let w : (c.b.inside.0 < c.loop-i.low) ⊎ (c.args.homes ≤ c.b.inside.0) =
    elim c.then-b-low.branch [ then-b-low-via-then-b-low w ↦ inl w.if-b-low.true | then-b-low-via-else-b-low+then-b-homes w ↦ inr w.if-b-homes.true ] in
    unordered-stop c.args.homes c.args.list.now c.loop-i.i c.b.inside.0 c.loop-i.low l e c.loop-i.invariant.0 c.loop-i.invariant.1 w

pub loop-i-preserved : goal.loop-i-preserved
loop-i-preserved c =
    let l : c.loop-i.i < length c.args.list.now = omega arith in
    let e : c.b.inside.0 ≡ get_or c.args.list.now c.loop-i.i 0 = c.b.view_is ∙ get_or_read c.args.list.now c.loop-i.i c.index-list-i.result l c.index-list-i.is 0 in
    let n = c.loop-i.invariant.0 in (
      sym (next_above-step c.args.list.now c.loop-i.i c.b.inside.0 l e),
      rising-step c.args.homes c.args.list.now c.loop-i.i c.b.inside.0 l e c.loop-i.invariant.1 (omega arith) c.if-b-homes.false,
    )
