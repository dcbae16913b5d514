use Rattle.std.proofs.Common.{subst}
use Rattle.std.specs.List.{All}
use Rattle.std.proofs.lemmas.List.{take_all}
use Rattle.std.proofs.lemmas.List.Elements.{All-more}
use Rattle.mq_report.specs.Ranges.{IsSmallLine}
use Rattle.mq_report.proofs.Lines.{entries-step, next-line}
use Rattle.mq_report.proofs.print.put_entries.Goals as goal

pub loop-line-preserved : goal.loop-line-preserved
loop-line-preserved c = record {
  text = entries-step c.loop-line.out.items c.put_group.new.out.items _ c.line-item.result _ _
      (next-line c.args.entries.now c.loop-line.line-index c.line-item.result c.loop-line-test.true c.line-item.is)
      c.in_ok-put_group.ensures.text c.loop-line.invariant.text;
  small = All-more IsSmallLine c.args.entries.now c.loop-line.line-index c.line-item.result c.loop-line-test.true c.loop-line.invariant.small
      (subst IsSmallLine c.line-item.is c.in_ok-put_group.ensures.small);
}

pub returns-clause-small : goal.returns-clause-small
returns-clause-small c = subst (All IsSmallLine) (take_all c.loop-line.line-index c.args.entries.now c.loop-line-test.false) c.loop-line.invariant.small
