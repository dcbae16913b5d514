use Rattle.std.proofs.Common.{◌+◌, drop, sym, ap, ◌∙◌}
use Rattle.mq_core.specs.declared.event.Event.{Event}
use Rattle.mq_audit.specs.Findings.{told_after, told_more}
use Rattle.mq_audit.proofs.Telling.{told_next}
use Rattle.mq_audit.proofs.finding.told_numbers.Goals as goal

pub loop-event-preserved : goal.loop-event-preserved
loop-event-preserved c =
    let inv = c.loop-event.invariant in
    let i = c.loop-event.event-index in
    let e = c.event-item.result in
    record {
      long = c.tell.ensures.length ∙ inv.long;
      numbers = told_more e inv.numbers;
      left =
          inv.left ∙ told_next c.args.events.now e i inv.numbers c.loop-event-test.true
          ∙ ap (λ (v : Event). told_after (drop (i + 1) c.args.events.now) (told_more v inv.numbers)) (sym c.event-item.is);
      table = c.tell.ensures.told inv.numbers inv.table;
    }
