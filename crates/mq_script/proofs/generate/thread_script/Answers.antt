use Rattle.mq_script.specs.Scripts.{Group}
use Rattle.mq_script.specs.Workloads.{script_of}
use Rattle.mq_script.proofs.Workloads.{groups_step}
use Rattle.mq_script.proofs.generate.thread_script.Goals as goal

pub loop-number-preserved : goal.loop-number-preserved
loop-number-preserved c =
    let g : Group = record { requests = c.in_ok-requests.requests.items; end = c.end_at-end.result } in
    rw c.in_ok-push-3.ensures.items
    (groups_step c.loop-number.all.items g c.args.groups c.args.thread c.loop-number.number c.next_word.result c.loop-number.rng c.next_word.new.self
    ((script_of c.args.seed c.args.thread c.args.groups).groups) c.loop-number-test.true c.next_word.ensures c.loop-number.invariant
    (λ i. record { requests = c.in_ok-requests.ensures i; end = c.end_at-end.ensures i }))
