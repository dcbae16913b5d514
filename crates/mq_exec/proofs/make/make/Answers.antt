use Rattle.std.proofs.Common.{Bool}
use Rattle.std.proofs.lemmas.Result.{err_from_is_err_and}
use Rattle.mq_exec.specs.Plans.{make_request}
use Rattle.mq_exec.proofs.PlansComing.{comes-carried, comes-refused}
use Rattle.mq_inodes.specs.Bare.{empty_body}
use Rattle.mq_inodes.proofs.MissingPages.{lacks-each}
use Rattle.mq_tree.specs.Looks.{LooksAt}
use Rattle.mq_tree.specs.Requests.{make as make_of, target as target_of}
use Rattle.mq_tree.specs.Volume.{way}
use Rattle.mq_exec.proofs.make.make.Goals as goal

pub returns-in_err-planned-clause-lack : goal.returns-in_err-planned-clause-lack
returns-in_err-planned-clause-lack c =
    let g = c.args.working.now.geometry in
    let p = err_from_is_err_and c.from_residual.result c.from_residual.ensures.1 in
    rw (p.1, p.2) (lacks-each c.args.working.now (λ v b. (t : Bool) → LooksAt g c.args.queue v (make_request t c.args.path.now) b) (λ v b. LooksAt g c.args.queue v (make_request c.args.is_directory c.args.path.now) b) c.in_err-planned.field-0.0
    (λ v b agrees h. h c.args.is_directory) c.in_err-planned.ensures.lack)

pub returns-in-Err-clause-ok : goal.returns-in-Err-clause-ok
returns-in-Err-clause-ok c v agrees =
    let g = c.args.working.now.geometry in
    comes-refused g v (make_of g c.args.queue v (empty_body c.args.is_directory) (target_of v (way c.args.path.now))) c.in-Err.fault c.args.working.now agrees ((rw c.in-Err.is at c.in_ok-planned.ensures.ok v agrees) c.args.is_directory)

pub carry_make-requires-clause-possible : goal.carry_make-requires-clause-possible
carry_make-requires-clause-possible c =
    let p = c.requires.possible in
    (c.args.queue, p.0, p.1, (rw c.in-Ok.is at c.in_ok-planned.ensures.ok p.0 p.1) c.args.is_directory)

pub returns-clause-ok : goal.returns-clause-ok
returns-clause-ok c v agrees =
    let g = c.args.working.now.geometry in
    let plan = (rw c.in-Ok.is at c.in_ok-planned.ensures.ok v agrees) c.args.is_directory in
    comes-carried g v (make_of g c.args.queue v (empty_body c.args.is_directory) (target_of v (way c.args.path.now))) _ c.args.working.now c.carry_make.new.working plan.carried (c.in_ok-carry_make.ensures.made (rw c.in-Ok.is at c.in_ok-planned.ensures.seen).inode c.args.queue v agrees plan)
