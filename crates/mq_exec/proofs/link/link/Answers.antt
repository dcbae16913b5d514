use Rattle.mq_exec.proofs.PlansComing.{comes-carried}
use Rattle.mq_tree.specs.Requests.{link as link_of, target as target_of}
use Rattle.mq_tree.specs.Volume.{way}
use Rattle.mq_exec.proofs.link.link.Goals as goal

pub returns-clause-ok : goal.returns-clause-ok
returns-clause-ok c v agrees =
    let g = c.args.working.now.geometry in
    let plan = rw c.in-Ok.is at c.in_ok-linking.ensures.ok v agrees in
    comes-carried g v (link_of g c.args.queue v (target_of v (way c.args.to.now)) (target_of v (way c.args.from.now))) _ c.args.working.now c.carry_link.new.working plan.carried (c.in_ok-carry_link-in-Ok.ensures.added c.args.queue v agrees plan)
