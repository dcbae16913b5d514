use Rattle.mq_exec.proofs.PlansComing.{comes-carried, comes-refused}
use Rattle.mq_exec.proofs.LongerFilling.{filled-at, truncate-makes}
use Rattle.mq_tree.specs.Requests.{cut_to, resized, truncate_in}
use Rattle.mq_tree.specs.Volume.{body}
use Rattle.mq_tree.specs.declared.request.Fault.TheVariants.{NoSpace}
use Rattle.mq_exec.proofs.truncate.fill.Goals as goal

pub carry_rewrite-requires-clause-possible : goal.carry_rewrite-requires-clause-possible
carry_rewrite-requires-clause-possible c =
    let g = c.args.working.now.geometry in
    let q = c.args.queue in
    let v = c.requires.possible.0 in
    let agrees = c.requires.possible.1 in
    let i = c.args.found.now.number in
    let f = c.requires.file v agrees in
    let verdict = truncate_in g q v i c.args.size (body v i) in
    let plan = rw c.in-Some.is at c.in_ok-rewriting.ensures.ok v agrees verdict (cut_to c.args.size) f.bytes (truncate-makes g q v i c.args.size f.bytes f.is c.requires.limit) in
    (q, v, verdict, cut_to c.args.size, agrees, plan, filled-at g q v verdict c.args.size c.in-Some.rewriting plan)

pub returns-in-None-clause-ok : goal.returns-in-None-clause-ok
returns-in-None-clause-ok c v agrees =
    let g = c.args.working.now.geometry in
    let q = c.args.queue in
    let i = c.args.found.now.number in
    let f = c.requires.file v agrees in
    let verdict = truncate_in g q v i c.args.size (body v i) in
    comes-refused g v verdict NoSpace c.args.working.now agrees (rw c.in-None.is at c.in_ok-rewriting.ensures.ok v agrees verdict (cut_to c.args.size) f.bytes (truncate-makes g q v i c.args.size f.bytes f.is c.requires.limit))

pub returns-clause-ok : goal.returns-clause-ok
returns-clause-ok c v agrees =
    let g = c.args.working.now.geometry in
    let q = c.args.queue in
    let i = c.args.found.now.number in
    let f = c.requires.file v agrees in
    let verdict = truncate_in g q v i c.args.size (body v i) in
    let plan = rw c.in-Some.is at c.in_ok-rewriting.ensures.ok v agrees verdict (cut_to c.args.size) f.bytes (truncate-makes g q v i c.args.size f.bytes f.is c.requires.limit) in
    comes-carried g v verdict (resized g q v c.in-Some.rewriting.file.number (cut_to c.args.size plan.bytes)) c.args.working.now c.carry_rewrite.new.working plan.carried
    (c.in_ok-carry_rewrite-in-Some.ensures.written q v verdict (cut_to c.args.size) agrees plan (filled-at g q v verdict c.args.size c.in-Some.rewriting plan))
