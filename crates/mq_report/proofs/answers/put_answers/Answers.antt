use Rattle.std.proofs.Common.{subst}
use Rattle.std.specs.List.{All}
use Rattle.std.proofs.lemmas.List.{take_all}
use Rattle.std.proofs.lemmas.List.Elements.{All-more}
use Rattle.mq_report.specs.Ranges.{IsSmallTold}
use Rattle.mq_report.proofs.Lines.{answers-step, next-told}
use Rattle.mq_report.proofs.answers.put_answers.Goals as goal

pub loop-told-preserved : goal.loop-told-preserved
loop-told-preserved c = record {
  text = answers-step c.loop-told.out.items c.put_told.new.out.items _ c.told-item.result _ _
      (next-told c.args.answers.now c.loop-told.told-index c.told-item.result c.loop-told-test.true c.told-item.is)
      c.in_ok-put_told.ensures.text c.loop-told.invariant.text;
  small = All-more IsSmallTold c.args.answers.now c.loop-told.told-index c.told-item.result c.loop-told-test.true c.loop-told.invariant.small
      (subst IsSmallTold c.told-item.is c.in_ok-put_told.ensures.small);
}

pub returns-clause-small : goal.returns-clause-small
returns-clause-small c = subst (All IsSmallTold) (take_all c.loop-told.told-index c.args.answers.now c.loop-told-test.false) c.loop-told.invariant.small
