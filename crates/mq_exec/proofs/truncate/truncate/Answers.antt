use Rattle.std.proofs.Common.{refl, sym, ap, subst, ◌∙◌, arith}
use Rattle.std.proofs.lemmas.Result.{IfErr-weaker, IfOk-weaker, err_from_is_err_and}
use Rattle.mq_exec.specs.Cuts.{LooksCut}
use Rattle.mq_exec.specs.Longer.{LooksLonger}
use Rattle.mq_exec.specs.Plans.{ComesTo}
use Rattle.mq_exec.proofs.ReadsAnswering.{past-looks}
use Rattle.mq_exec.proofs.PlansComing.{comes-refused}
use Rattle.mq_exec.proofs.LongerFilling.{truncate-big}
use Rattle.mq_exec.proofs.PlansTargets.{file-found, file-refused}
use Rattle.mq_exec.proofs.PlansTruncateLooks.{cut-looks, filled-looks, sized-found, truncate-found, truncate-refused}
use Rattle.mq_inodes.specs.MissingPages.{MissingOf, OfEach}
use Rattle.mq_inodes.specs.Walks.{LeadsPast}
use Rattle.mq_inodes.proofs.Files.{file-size}
use Rattle.mq_inodes.proofs.MissingPages.{lacks-each}
use Rattle.mq_tree.specs.Looks.{LooksAt}
use Rattle.mq_tree.specs.Requests.{Verdict, carried_out, target, truncate}
use Rattle.mq_tree.specs.Volume.{node, way}
use Rattle.mq_tree.specs.declared.request.Fault.TheVariants.{TooBig}
use Rattle.mq_tree.specs.declared.request.Request.TheVariants.{Truncate}
use Rattle.mq_exec.proofs.truncate.truncate.Goals as goal

pub returns-in_err-found-clause-lack : goal.returns-in_err-found-clause-lack
returns-in_err-found-clause-lack c =
    let g = c.args.working.now.geometry in
    let r = Truncate c.args.path.now c.args.size in
    let p = err_from_is_err_and c.from_residual.result c.from_residual.ensures.1 in
    rw (p.1, p.2) (lacks-each c.args.working.now (λ v b. LeadsPast g v (way c.args.path.now) b) (λ v b. LooksAt g c.args.queue v r b) c.in_err-found.field-0.0 (λ v b agrees h. past-looks g c.args.queue v c.args.path.now r b refl h) c.in_err-found.ensures.lack)

pub returns-in-Err-clause-ok : goal.returns-in-Err-clause-ok
returns-in-Err-clause-ok c v agrees =
    let g = c.args.working.now.geometry in
    let t = target v (way c.args.path.now) in
    comes-refused g v (truncate g c.args.queue v c.args.size t) c.in-Err.fault c.args.working.now agrees
    (ap (λ (x : Verdict). carried_out g v x) (truncate-refused g c.args.queue v c.args.size t c.in-Err.fault (file-refused v c.args.path.now c.in_ok-found.field-0 c.in-Err.fault c.in-Err.is (c.in_ok-found.ensures.ok v agrees))))

pub returns-then-size-gt-FILE_LIMIT-clause-ok : goal.returns-then-size-gt-FILE_LIMIT-clause-ok
returns-then-size-gt-FILE_LIMIT-clause-ok c v agrees =
    let g = c.args.working.now.geometry in
    let q = c.args.queue in
    let t = target v (way c.args.path.now) in
    let f = c.in-Ok.found in
    let found = file-found v c.args.path.now c.in_ok-found.field-0 f c.in-Ok.is (c.in_ok-found.ensures.ok v agrees) in
    comes-refused g v (truncate g q v c.args.size t) TooBig c.args.working.now agrees
    (ap (λ (x : Verdict). carried_out g v x) (truncate-found g q v c.args.path.now c.args.size f found ∙ truncate-big g q v f.number c.args.size found.file.bytes found.file.is c.if-size-gt-FILE_LIMIT.true))

pub shorten-requires-clause-file : goal.shorten-requires-clause-file
shorten-requires-clause-file c v agrees = (file-found v c.args.path.now c.in_ok-found.field-0 c.in-Ok.found c.in-Ok.is (c.in_ok-found.ensures.ok v agrees)).file

pub shorten-requires-clause-table : goal.shorten-requires-clause-table
shorten-requires-clause-table c = rw c.in-Ok.is at c.in_ok-found.ensures.held

pub returns-then-size-found-clause-ok : goal.returns-then-size-found-clause-ok
returns-then-size-found-clause-ok c =
    let g = c.args.working.now.geometry in
    let q = c.args.queue in
    let old = c.args.working.now in
    let f = c.in-Ok.found in
    IfOk-weaker c.shorten.result _ (λ reply. OfEach old (λ v. ComesTo g v (truncate g q v c.args.size (target v (way c.args.path.now))) reply old c.shorten.new.working))
    (λ reply h v agrees.
    let found = file-found v c.args.path.now c.in_ok-found.field-0 f c.in-Ok.is (c.in_ok-found.ensures.ok v agrees) in
    subst (λ (x : Verdict). ComesTo g v x reply old c.shorten.new.working) (sym (truncate-found g q v c.args.path.now c.args.size f found)) (h v agrees q)) c.shorten.ensures.ok

pub returns-then-size-found-clause-lack : goal.returns-then-size-found-clause-lack
returns-then-size-found-clause-lack c =
    let g = c.args.working.now.geometry in
    let q = c.args.queue in
    let f = c.in-Ok.found in
    let r = Truncate c.args.path.now c.args.size in
    IfErr-weaker c.shorten.result _ (MissingOf c.args.working.now (λ v b. LooksAt g q v r b))
    (λ lack n. lacks-each c.args.working.now (λ v b. LooksCut g v f.number c.args.size b) (λ v b. LooksAt g q v r b) lack
    (λ v b agrees h.
    let found = file-found v c.args.path.now c.in_ok-found.field-0 f c.in-Ok.is (c.in_ok-found.ensures.ok v agrees) in
    let s = file-size (node v f.number) f.inode found.file.bytes found.file.says found.file.is in
    cut-looks g q v c.args.path.now f.number c.args.size found.file.bytes b (sized-found g q v c.args.path.now c.args.size f agrees.sound c.requires.queue c.requires.names c.if-size-gt-FILE_LIMIT.false found) (let t = c.if-size-found.true in omega arith) h) n) c.shorten.ensures.lack

pub fill-requires-clause-file : goal.fill-requires-clause-file
fill-requires-clause-file c v agrees = (file-found v c.args.path.now c.in_ok-found.field-0 c.in-Ok.found c.in-Ok.is (c.in_ok-found.ensures.ok v agrees)).file

pub fill-requires-clause-table : goal.fill-requires-clause-table
fill-requires-clause-table c = rw c.in-Ok.is at c.in_ok-found.ensures.held

pub returns-clause-ok : goal.returns-clause-ok
returns-clause-ok c =
    let g = c.args.working.now.geometry in
    let q = c.args.queue in
    let old = c.args.working.now in
    let f = c.in-Ok.found in
    IfOk-weaker c.fill.result _ (λ reply. OfEach old (λ v. ComesTo g v (truncate g q v c.args.size (target v (way c.args.path.now))) reply old c.fill.new.working))
    (λ reply h v agrees.
    let found = file-found v c.args.path.now c.in_ok-found.field-0 f c.in-Ok.is (c.in_ok-found.ensures.ok v agrees) in
    subst (λ (x : Verdict). ComesTo g v x reply old c.fill.new.working) (sym (truncate-found g q v c.args.path.now c.args.size f found)) (h v agrees)) c.fill.ensures.ok

pub returns-clause-lack : goal.returns-clause-lack
returns-clause-lack c =
    let g = c.args.working.now.geometry in
    let q = c.args.queue in
    let f = c.in-Ok.found in
    let r = Truncate c.args.path.now c.args.size in
    IfErr-weaker c.fill.result _ (MissingOf c.args.working.now (λ v b. LooksAt g q v r b))
    (λ lack n. lacks-each c.args.working.now (λ v b. LooksLonger g q v f.number c.args.size 0 0 b) (λ v b. LooksAt g q v r b) lack
    (λ v b agrees h.
    let found = file-found v c.args.path.now c.in_ok-found.field-0 f c.in-Ok.is (c.in_ok-found.ensures.ok v agrees) in
    let s = file-size (node v f.number) f.inode found.file.bytes found.file.says found.file.is in
    filled-looks g q v c.args.path.now f.number c.args.size found.file.bytes b (sized-found g q v c.args.path.now c.args.size f agrees.sound c.requires.queue c.requires.names c.if-size-gt-FILE_LIMIT.false found) (let t = c.if-size-found.false in omega arith) h) n) c.fill.ensures.lack
