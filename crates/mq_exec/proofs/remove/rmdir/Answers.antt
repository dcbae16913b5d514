use Rattle.mq_exec.proofs.PlansComing.{comes-carried, comes-refused}
use Rattle.mq_tree.specs.Requests.{rmdir as rmdir_of, target as target_of}
use Rattle.mq_tree.specs.Volume.{way}
use Rattle.mq_exec.proofs.remove.rmdir.Goals as goal

pub returns-in-Err-clause-ok : goal.returns-in-Err-clause-ok
returns-in-Err-clause-ok c v agrees = comes-refused c.args.working.now.geometry v (rmdir_of v (target_of v (way c.args.path.now))) c.in-Err.fault c.args.working.now agrees (rw c.in-Err.is at c.in_ok-removal.ensures.ok v agrees)

pub carry_remove-requires-clause-possible : goal.carry_remove-requires-clause-possible
carry_remove-requires-clause-possible c =
    let p = c.requires.possible in
    (p.0, rmdir_of p.0 (target_of p.0 (way c.args.path.now)), p.1, rw c.in-Ok.is at c.in_ok-removal.ensures.ok p.0 p.1)

pub returns-clause-ok : goal.returns-clause-ok
returns-clause-ok c v agrees =
    let g = c.args.working.now.geometry in
    let verdict = rmdir_of v (target_of v (way c.args.path.now)) in
    let plan = rw c.in-Ok.is at c.in_ok-removal.ensures.ok v agrees in
    comes-carried g v verdict _ c.args.working.now c.carry_remove.new.working plan.carried (c.in_ok-carry_remove-in-Ok.ensures.removed v verdict agrees plan)
