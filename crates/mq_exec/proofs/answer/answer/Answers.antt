use Rattle.std.proofs.Common.{sym, ap, subst, ◌∙◌, refl}
use Rattle.std.proofs.lemmas.Result.{IfErr-weaker, IfOk-weaker, err_from_is_err_and}
use Rattle.mq_exec.specs.Reads.{LooksAlways, LooksInDir, NamesLeadPast, Reads, path_of}
use Rattle.mq_exec.proofs.ReadsAnswering.{found-named, found-refused, list-looks, named-reads, names-look, read-looks, stat-looks}
use Rattle.mq_inodes.specs.Fits.{Agrees}
use Rattle.mq_inodes.specs.MissingPages.{MissingOf, OfEach}
use Rattle.mq_inodes.specs.Pages.{pages_of}
use Rattle.mq_inodes.specs.Files.{LooksInFile}
use Rattle.mq_inodes.proofs.MissingPages.{lacks-weaker}
use Rattle.mq_tree.specs.Volume.{Volume}
use Rattle.mq_tree.specs.declared.request.Request.{Request}
use Rattle.mq_tree.specs.declared.request.Request.TheVariants.{Read, List as ListOf, Stat}
use Rattle.mq_exec.proofs.answer.answer.Goals as goal

pub returns-in_err-subject-clause-lack : goal.returns-in_err-subject-clause-lack
returns-in_err-subject-clause-lack c =
    let g = c.args.working.now.geometry in
    let pages = pages_of c.args.working.now in
    let p = err_from_is_err_and c.from_residual.result c.from_residual.ensures.1 in
    rw (p.1, p.2) (lacks-weaker pages (λ b. (v : Volume) → Agrees g pages v → NamesLeadPast g v c.path_in.result.now b) (λ b. (v : Volume) → Agrees g pages v → LooksAlways g v c.args.request.now b) c.in_err-subject.field-0.0
    (λ b h v agrees. names-look g v c.args.request.now c.path_in.result.now b c.requires.reads c.path_in.ensures (h v agrees)) c.in_err-subject.ensures.lack)

pub returns-in-Err-clause-ok : goal.returns-in-Err-clause-ok
returns-in-Err-clause-ok c v agrees = found-refused c.args.working.now.geometry v c.args.request.now c.path_in.result.now c.in_ok-subject.field-0 c.in-Err.fault c.requires.reads c.path_in.ensures c.in-Err.is (c.in_ok-subject.ensures.ok v agrees)

pub returns-in-Read-clause-ok : goal.returns-in-Read-clause-ok
returns-in-Read-clause-ok c =
    IfOk-weaker c.read.result _ (λ reply. OfEach c.args.working.now (λ v. Reads c.args.working.now.geometry v c.args.request.now reply))
    (λ reply h v agrees. subst (λ (r : Request). Reads c.args.working.now.geometry v r reply) (sym c.in-Read.is)
    (named-reads c.args.working.now.geometry v (Read c.in-Read.field-0 c.in-Read.at c.in-Read.count) c.in-Ok.subject reply refl
    (found-named v c.path_in.result.now c.in-Read.field-0 c.in_ok-subject.field-0 c.in-Ok.subject (c.path_in.ensures ∙ ap path_of c.in-Read.is) c.in-Ok.is (c.in_ok-subject.ensures.ok v agrees)) (h v agrees))) c.read.ensures.ok

pub returns-in-Read-clause-lack : goal.returns-in-Read-clause-lack
returns-in-Read-clause-lack c =
    let g = c.args.working.now.geometry in
    let pages = pages_of c.args.working.now in
    IfErr-weaker c.read.result _ (MissingOf c.args.working.now (λ v b. LooksAlways g v c.args.request.now b))
    (λ lack n. lacks-weaker pages (λ b. (v : Volume) → Agrees g pages v → LooksInFile v c.in-Ok.subject.number c.in-Read.at c.in-Read.count b) (λ b. (v : Volume) → Agrees g pages v → LooksAlways g v c.args.request.now b) lack
    (λ b h v agrees. subst (λ (r : Request). LooksAlways g v r b) (sym c.in-Read.is) (read-looks g v c.in-Read.field-0 c.in-Read.at c.in-Read.count c.in-Ok.subject b
    (found-named v c.path_in.result.now c.in-Read.field-0 c.in_ok-subject.field-0 c.in-Ok.subject (c.path_in.ensures ∙ ap path_of c.in-Read.is) c.in-Ok.is (c.in_ok-subject.ensures.ok v agrees)) (h v agrees))) n) c.read.ensures.lack

pub returns-in-List-clause-ok : goal.returns-in-List-clause-ok
returns-in-List-clause-ok c =
    IfOk-weaker c.list.result _ (λ reply. OfEach c.args.working.now (λ v. Reads c.args.working.now.geometry v c.args.request.now reply))
    (λ reply h v agrees. subst (λ (r : Request). Reads c.args.working.now.geometry v r reply) (sym c.in-List.is)
    (named-reads c.args.working.now.geometry v (ListOf c.in-List.field-0) c.in-Ok.subject reply refl
    (found-named v c.path_in.result.now c.in-List.field-0 c.in_ok-subject.field-0 c.in-Ok.subject (c.path_in.ensures ∙ ap path_of c.in-List.is) c.in-Ok.is (c.in_ok-subject.ensures.ok v agrees)) (h v agrees))) c.list.ensures.ok

pub returns-in-List-clause-lack : goal.returns-in-List-clause-lack
returns-in-List-clause-lack c =
    let g = c.args.working.now.geometry in
    let pages = pages_of c.args.working.now in
    IfErr-weaker c.list.result _ (MissingOf c.args.working.now (λ v b. LooksAlways g v c.args.request.now b))
    (λ lack n. lacks-weaker pages (λ b. (v : Volume) → Agrees g pages v → LooksInDir v c.in-Ok.subject.number b) (λ b. (v : Volume) → Agrees g pages v → LooksAlways g v c.args.request.now b) lack
    (λ b h v agrees. subst (λ (r : Request). LooksAlways g v r b) (sym c.in-List.is) (list-looks g v c.in-List.field-0 c.in-Ok.subject b
    (found-named v c.path_in.result.now c.in-List.field-0 c.in_ok-subject.field-0 c.in-Ok.subject (c.path_in.ensures ∙ ap path_of c.in-List.is) c.in-Ok.is (c.in_ok-subject.ensures.ok v agrees)) (h v agrees))) n) c.list.ensures.lack

pub returns-in-Stat-clause-ok : goal.returns-in-Stat-clause-ok
returns-in-Stat-clause-ok c =
    IfOk-weaker c.stat.result _ (λ reply. OfEach c.args.working.now (λ v. Reads c.args.working.now.geometry v c.args.request.now reply))
    (λ reply h v agrees. subst (λ (r : Request). Reads c.args.working.now.geometry v r reply) (sym c.in-Stat.is)
    (named-reads c.args.working.now.geometry v (Stat c.in-Stat.field-0) c.in-Ok.subject reply refl
    (found-named v c.path_in.result.now c.in-Stat.field-0 c.in_ok-subject.field-0 c.in-Ok.subject (c.path_in.ensures ∙ ap path_of c.in-Stat.is) c.in-Ok.is (c.in_ok-subject.ensures.ok v agrees)) (h v agrees))) c.stat.ensures.ok

pub returns-in-Stat-clause-lack : goal.returns-in-Stat-clause-lack
returns-in-Stat-clause-lack c =
    let g = c.args.working.now.geometry in
    let pages = pages_of c.args.working.now in
    IfErr-weaker c.stat.result _ (MissingOf c.args.working.now (λ v b. LooksAlways g v c.args.request.now b))
    (λ lack n. lacks-weaker pages (λ b. (v : Volume) → Agrees g pages v → LooksInDir v c.in-Ok.subject.number b) (λ b. (v : Volume) → Agrees g pages v → LooksAlways g v c.args.request.now b) lack
    (λ b h v agrees. subst (λ (r : Request). LooksAlways g v r b) (sym c.in-Stat.is) (stat-looks g v c.in-Stat.field-0 c.in-Ok.subject b
    (found-named v c.path_in.result.now c.in-Stat.field-0 c.in_ok-subject.field-0 c.in-Ok.subject (c.path_in.ensures ∙ ap path_of c.in-Stat.is) c.in-Ok.is (c.in_ok-subject.ensures.ok v agrees)) (h v agrees))) n) c.stat.ensures.lack
