use Rattle.std.proofs.Common.{◌<◌, ◌≤◌, ◌+◌, length, refl, arith}
use Rattle.std.proofs.lemmas.Result.{err_from_is_err_and}
use Rattle.mq_exec.specs.Longer.{LooksLonger}
use Rattle.mq_exec.proofs.ReadsAnswering.{past-looks}
use Rattle.mq_exec.proofs.PlansComing.{comes-carried, comes-refused}
use Rattle.mq_exec.proofs.PlansTargets.{file-found, file-refused}
use Rattle.mq_exec.proofs.PlansWriting.{size-is, write-big, write-looks, write-refused, writing, written-spliced}
use Rattle.mq_inodes.specs.Walks.{LeadsPast}
use Rattle.mq_inodes.proofs.MissingPages.{lacks-each}
use Rattle.mq_tree.specs.Looks.{LooksAt}
use Rattle.mq_tree.specs.Requests.{spliced, target as target_of, write as write_of}
use Rattle.mq_tree.specs.Volume.{way}
use Rattle.mq_tree.specs.declared.request.Fault.TheVariants.{NoSpace, TooBig}
use Rattle.mq_tree.specs.declared.request.Request.TheVariants.{Write}
use Rattle.mq_exec.proofs.rewrite.write.Goals as goal

pub returns-in_err-found-clause-lack : goal.returns-in_err-found-clause-lack
returns-in_err-found-clause-lack c =
    let g = c.args.working.now.geometry in
    let r = Write c.args.path.now c.args.at c.args.bytes.now in
    let p = err_from_is_err_and c.from_residual.result c.from_residual.ensures.1 in
    rw (p.1, p.2) (lacks-each c.args.working.now (λ v b. LeadsPast g v (way c.args.path.now) b) (λ v b. LooksAt g c.args.queue v r b) c.in_err-found.field-0.0
    (λ v b agrees h. past-looks g c.args.queue v c.args.path.now r b refl h) c.in_err-found.ensures.lack)

pub returns-in-Err-clause-ok : goal.returns-in-Err-clause-ok
returns-in-Err-clause-ok c v agrees =
    let g = c.args.working.now.geometry in
    let t = target_of v (way c.args.path.now) in
    comes-refused g v (write_of g c.args.queue v c.args.at c.args.bytes.now t) c.in-Err.fault c.args.working.now agrees
    (write-refused g c.args.queue v c.args.at c.args.bytes.now t c.in-Err.fault (file-refused v c.args.path.now c.in_ok-found.field-0 c.in-Err.fault c.in-Err.is (c.in_ok-found.ensures.ok v agrees)))

pub returns-then-saturating_add-gt-FILE_LIMIT-clause-ok : goal.returns-then-saturating_add-gt-FILE_LIMIT-clause-ok
returns-then-saturating_add-gt-FILE_LIMIT-clause-ok c v agrees =
    let g = c.args.working.now.geometry in
    let t = target_of v (way c.args.path.now) in
    let f = file-found v c.args.path.now c.in_ok-found.field-0 c.in-Ok.found c.in-Ok.is (c.in_ok-found.ensures.ok v agrees) in
    let big : 4243456 < c.args.at + length c.args.bytes.now = (let e = c.saturating_add.ensures in let h = c.if-saturating_add-gt-FILE_LIMIT.true in omega arith) in
    comes-refused g v (write_of g c.args.queue v c.args.at c.args.bytes.now t) TooBig c.args.working.now agrees (write-big g c.args.queue v c.args.path.now c.args.at c.args.bytes.now c.in-Ok.found f big)

pub returns-in_err-rewriting-clause-lack : goal.returns-in_err-rewriting-clause-lack
returns-in_err-rewriting-clause-lack c =
    let g = c.args.working.now.geometry in
    let new = c.args.bytes.now in
    let r = Write c.args.path.now c.args.at new in
    let found = c.in-Ok.found in
    let size = c.size_after-size.result in
    let p = err_from_is_err_and c.from_residual-in_err-rewriting.result c.from_residual-in_err-rewriting.ensures.1 in
    rw (p.1, p.2) (lacks-each c.args.working.now (λ v b. LooksLonger g c.args.queue v found.number size c.args.at (length new) b) (λ v b. LooksAt g c.args.queue v r b) c.in_err-rewriting.field-0.0
    (λ v b agrees h.
    let f = file-found v c.args.path.now c.in_ok-found.field-0 found c.in-Ok.is (c.in_ok-found.ensures.ok v agrees) in
    let limit : c.args.at + length new ≤ 4243456 = (let e = c.saturating_add.ensures in let low = c.if-saturating_add-gt-FILE_LIMIT.false in omega arith) in
    write-looks g c.args.queue v c.args.path.now c.args.at new found.number size f.file.bytes b (writing g c.args.queue v c.args.path.now c.args.at size new found agrees.sound c.requires.queue c.requires.names f limit (size-is v c.args.path.now c.args.at size new found f c.size_after-size.ensures)) h) c.in_err-rewriting.ensures.lack)

pub carry_rewrite-requires-clause-possible : goal.carry_rewrite-requires-clause-possible
carry_rewrite-requires-clause-possible c =
    let g = c.args.working.now.geometry in
    let new = c.args.bytes.now in
    let found = c.in-Ok.found in
    let size = c.size_after-size.result in
    let p = c.requires.possible in
    let v = p.0 in
    let f = file-found v c.args.path.now c.in_ok-found.field-0 found c.in-Ok.is (c.in_ok-found.ensures.ok v p.1) in
    let limit : c.args.at + length new ≤ 4243456 = (let e = c.saturating_add.ensures in let low = c.if-saturating_add-gt-FILE_LIMIT.false in omega arith) in
    let verdict = write_of g c.args.queue v c.args.at new (target_of v (way c.args.path.now)) in
    let w = writing g c.args.queue v c.args.path.now c.args.at size new found p.1.sound c.requires.queue c.requires.names f limit (size-is v c.args.path.now c.args.at size new found f c.size_after-size.ensures) in
    let plan = rw c.in-Some.is at c.in_ok-rewriting.ensures.ok v p.1 verdict (spliced c.args.at new) f.file.bytes w.rewriting in
    (c.args.queue, v, verdict, spliced c.args.at new, p.1, plan, written-spliced c.args.at new plan.bytes)

pub returns-in-None-clause-ok : goal.returns-in-None-clause-ok
returns-in-None-clause-ok c v agrees =
    let g = c.args.working.now.geometry in
    let new = c.args.bytes.now in
    let found = c.in-Ok.found in
    let size = c.size_after-size.result in
    let f = file-found v c.args.path.now c.in_ok-found.field-0 found c.in-Ok.is (c.in_ok-found.ensures.ok v agrees) in
    let limit : c.args.at + length new ≤ 4243456 = (let e = c.saturating_add.ensures in let low = c.if-saturating_add-gt-FILE_LIMIT.false in omega arith) in
    let verdict = write_of g c.args.queue v c.args.at new (target_of v (way c.args.path.now)) in
    let w = writing g c.args.queue v c.args.path.now c.args.at size new found agrees.sound c.requires.queue c.requires.names f limit (size-is v c.args.path.now c.args.at size new found f c.size_after-size.ensures) in
    comes-refused g v verdict NoSpace c.args.working.now agrees (rw c.in-None.is at c.in_ok-rewriting.ensures.ok v agrees verdict (spliced c.args.at new) f.file.bytes w.rewriting)

pub returns-clause-ok : goal.returns-clause-ok
returns-clause-ok c v agrees =
    let g = c.args.working.now.geometry in
    let new = c.args.bytes.now in
    let found = c.in-Ok.found in
    let size = c.size_after-size.result in
    let f = file-found v c.args.path.now c.in_ok-found.field-0 found c.in-Ok.is (c.in_ok-found.ensures.ok v agrees) in
    let limit : c.args.at + length new ≤ 4243456 = (let e = c.saturating_add.ensures in let low = c.if-saturating_add-gt-FILE_LIMIT.false in omega arith) in
    let verdict = write_of g c.args.queue v c.args.at new (target_of v (way c.args.path.now)) in
    let w = writing g c.args.queue v c.args.path.now c.args.at size new found agrees.sound c.requires.queue c.requires.names f limit (size-is v c.args.path.now c.args.at size new found f c.size_after-size.ensures) in
    let plan = rw c.in-Some.is at c.in_ok-rewriting.ensures.ok v agrees verdict (spliced c.args.at new) f.file.bytes w.rewriting in
    comes-carried g v verdict _ c.args.working.now c.carry_rewrite.new.working plan.carried (c.in_ok-carry_rewrite-in-Some.ensures.written c.args.queue v verdict (spliced c.args.at new) agrees plan (written-spliced c.args.at new plan.bytes))
