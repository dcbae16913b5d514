use Rattle.mq_exec.proofs.PlansComing.{comes-carried}
use Rattle.mq_tree.specs.Requests.{rename as rename_of, target as target_of}
use Rattle.mq_tree.specs.Volume.{way}
use Rattle.mq_exec.proofs.rename.rename.Goals as goal

pub returns-clause-ok : goal.returns-clause-ok
returns-clause-ok c v agrees =
    let g = c.args.working.now.geometry in
    let plan = rw c.in-Ok.is at c.in_ok-renaming.ensures.ok v agrees in
    comes-carried g v (rename_of g c.args.queue v c.args.from.now c.args.to.now (target_of v (way c.args.from.now))) _ c.args.working.now c.carry_rename.new.working plan.carried (c.in_ok-carry_rename-in-Ok.ensures.moved c.args.queue v agrees plan)
