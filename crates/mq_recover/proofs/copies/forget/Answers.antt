use Rattle.std.proofs.Common.{◌≡◌, length, get_or, None, ◌∙◌, arith}
use Rattle.std.proofs.Math.ListN.{length-set}
use Rattle.mq_recover.proofs.RecoverCopies.{rising-at, forgotten-next}
use Rattle.mq_recover.proofs.copies.forget.Goals as goal

pub bounds-copies-b-inside : goal.bounds-copies-b-inside
bounds-copies-b-inside c =
    let within = rising-at 0 (length c.args.copies.now) c.args.revoked.now c.loop-b.b-index c.b-item.result c.requires c.loop-b-test.true in
    omega (arith, within, c.b.view_is, c.b-item.is, c.loop-b.invariant.same)

pub loop-b-preserved : goal.loop-b-preserved
loop-b-preserved c =
    let is : c.b.inside.0 ≡ get_or c.args.revoked.now c.loop-b.b-index c.b-item.result = c.b.view_is ∙ c.b-item.is in
    record {
      goes_on = forgotten-next c.loop-b.copies c.args.revoked.now c.loop-b.b-index c.b.inside.0 c.b-item.result c.loop-b-test.true is ∙ c.loop-b.invariant.goes_on;
      same = length-set c.loop-b.copies c.b.inside.0 None ∙ c.loop-b.invariant.same;
    }
