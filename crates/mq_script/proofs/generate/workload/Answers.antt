use Rattle.mq_script.specs.Workloads.{workload_of}
use Rattle.mq_script.proofs.Workloads.{scripts_step}
use Rattle.mq_script.proofs.generate.workload.Goals as goal

pub loop-thread-preserved : goal.loop-thread-preserved
loop-thread-preserved c =
    rw c.in_ok-push.ensures.items
    (scripts_step c.loop-thread.scripts.items c.in_ok-thread_script.field-0 c.args.threads c.args.seed c.loop-thread.thread c.args.groups
    (workload_of c.args.seed c.args.threads c.args.groups) c.loop-thread-test.true c.loop-thread.invariant c.in_ok-thread_script.ensures)
