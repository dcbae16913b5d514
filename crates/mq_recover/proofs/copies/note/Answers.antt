use Rattle.std.proofs.Common.{◌≡◌, length, get_or, Some, ◌∙◌, arith}
use Rattle.std.proofs.Math.ListN.{length-set}
use Rattle.mq_recover.specs.Copies.{copy_place_at}
use Rattle.mq_recover.proofs.RecoverCopies.{rising-at, noted-next}
use Rattle.mq_recover.proofs.copies.note.Goals as goal

pub bounds-copies-b-inside : goal.bounds-copies-b-inside
bounds-copies-b-inside c =
    let within = rising-at 0 (length c.args.copies.now) c.args.logged.now c.loop-b.b-index c.b-item.result c.requires.rising c.loop-b-test.true in
    omega (arith, within, c.b.view_is, c.b-item.is, c.loop-b.invariant.same)

pub loop-b-preserved : goal.loop-b-preserved
loop-b-preserved c =
    let is : c.b.inside.0 ≡ get_or c.args.logged.now c.loop-b.b-index c.b-item.result = c.b.view_is ∙ c.b-item.is in
    record {
      goes_on = noted-next c.loop-b.copies c.args.queue c.loop-b.place c.args.logged.now c.loop-b.b-index c.b.inside.0 c.b-item.result c.loop-b-test.true is ∙ c.loop-b.invariant.goes_on;
      place_is = omega (arith, c.loop-b.invariant.place_is);
      same = length-set c.loop-b.copies c.b.inside.0 (Some (copy_place_at c.args.queue c.loop-b.place)) ∙ c.loop-b.invariant.same;
    }
