use Rattle.std.proofs.Common.{◌∙◌, ◌≡◌, ◌<◌, ◌≤◌, ◌⊎◌, inl, inr, length, get_or, sym, arith}
use Rattle.std.proofs.lemmas.List.{get_or_read}
use Rattle.mq_area.proofs.DescriptorRising.{unfit-stop, logged-stop, unlogged-step, below-next, rising-step, next_above-step}
use Rattle.mq_area.proofs.lists.first_unfit.Goals as goal
use Rattle.mq_area.proofs.lists.first_unfit.Goals.{then-b-low-via-then-b-low, then-b-low-via-else-b-low+then-b-homes}

pub returns-then-b-low : goal.returns-then-b-low
returns-then-b-low c =
    let l : c.loop-i.i < length c.args.revoked.now = omega arith in
    let e : c.b.inside.0 ≡ get_or c.args.revoked.now c.loop-i.i 0 = c.b.view_is ∙ get_or_read c.args.revoked.now c.loop-i.i c.index-revoked-i.result l c.index-revoked-i.is 0 in
    let w : (c.b.inside.0 < c.loop-i.low) ⊎ (c.args.homes ≤ c.b.inside.0) =
    elim c.then-b-low.branch [ then-b-low-via-then-b-low w ↦ inl w.if-b-low.true | then-b-low-via-else-b-low+then-b-homes w ↦ inr w.if-b-homes.true ] in
    let v = c.loop-i.invariant in
    unfit-stop c.args.homes c.args.logged.now c.args.revoked.now c.loop-i.i c.b.inside.0 c.loop-i.low l e v.0 v.1 v.2 w

pub returns-then-is_at : goal.returns-then-is_at
returns-then-is_at c =
    let l : c.loop-i.i < length c.args.revoked.now = omega arith in
    let e : c.b.inside.0 ≡ get_or c.args.revoked.now c.loop-i.i 0 = c.b.view_is ∙ get_or_read c.args.revoked.now c.loop-i.i c.index-revoked-i.result l c.index-revoked-i.is 0 in
    let v = c.loop-i.invariant in
    logged-stop c.args.homes c.args.logged.now c.args.revoked.now c.loop-i.i c.b.inside.0 c.skip_below-passed.result l e v.1 v.2 (c.is_at.ensures.0 c.if-is_at.true)

pub loop-i-preserved : goal.loop-i-preserved
loop-i-preserved c =
    let l : c.loop-i.i < length c.args.revoked.now = omega arith in
    let e : c.b.inside.0 ≡ get_or c.args.revoked.now c.loop-i.i 0 = c.b.view_is ∙ get_or_read c.args.revoked.now c.loop-i.i c.index-revoked-i.result l c.index-revoked-i.is 0 in
    let v = c.loop-i.invariant in
    let n = v.0 in
    let s = c.skip_below-passed.ensures in (
      sym (next_above-step c.args.revoked.now c.loop-i.i c.b.inside.0 l e),
      rising-step c.args.homes c.args.revoked.now c.loop-i.i c.b.inside.0 l e v.1 (omega arith) c.if-b-homes.false,
      unlogged-step c.args.homes c.args.logged.now c.args.revoked.now c.loop-i.i c.b.inside.0 c.loop-i.low c.loop-i.passed c.skip_below-passed.result l e c.requires v.2 c.if-b-low.false v.4 s.passed s.stop
          (λ t. let y = c.is_at.ensures.1 t in let n = c.if-is_at.false in cc),
      s.high,
      below-next c.args.logged.now c.b.inside.0 c.loop-i.low c.loop-i.passed c.skip_below-passed.result c.if-b-low.false v.4 s.passed,
    )
