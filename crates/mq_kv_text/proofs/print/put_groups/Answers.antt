use Rattle.mq_kv_text.proofs.ReportsPrinted.{groups_step}
use Rattle.mq_kv_text.proofs.print.put_groups.Goals as goal

pub loop-group-preserved : goal.loop-group-preserved
loop-group-preserved c =
    groups_step c.loop-group.out.items c.put_group.new.out.items _ c.args.groups.now c.loop-group.group-index c.group-item.result c.loop-group-test.true c.group-item.is
    c.in_ok-put_group.ensures c.loop-group.invariant
