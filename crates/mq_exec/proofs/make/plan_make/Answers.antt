use Rattle.std.proofs.Common.{◌≡◌, Bool, ℕ, List, false, subst, ◌∙◌}
use Rattle.std.specs.List.{Contains}
use Rattle.std.proofs.lemmas.Result.{err_from_is_err_and}
use Rattle.mq_exec.specs.Plans.{make_request, wanted}
use Rattle.mq_exec.proofs.PlansCreations.{seen-make}
use Rattle.mq_inodes.specs.Bare.{empty_body}
use Rattle.mq_inodes.specs.MissingPages.{OfEach}
use Rattle.mq_inodes.specs.Pages.{pages_of}
use Rattle.mq_inodes.proofs.MissingPages.{lacks-weaker}
use Rattle.mq_tree.specs.Looks.{LooksAt}
use Rattle.mq_exec.proofs.make.plan_make.Goals as goal

pub wanted-requires : goal.wanted-requires
wanted-requires c =
    let p = c.requires.possible in
    let plan = (rw c.in-Ok.is at c.in_ok-creation.ensures.ok) p.0 p.1 false in
    plan.low

pub returns-in_err-look_for_all-clause-lack : goal.returns-in_err-look_for_all-clause-lack
returns-in_err-look_for_all-clause-lack c =
    let w = c.args.working.now in
    let p = err_from_is_err_and c.from_residual-in_err-look_for_all.result c.from_residual-in_err-look_for_all.ensures.1 in
    let wants = rw c.in-Ok.is at c.in_ok-creation.ensures.wanted in
    let all : c.deref.result.now ≡ wanted w.geometry c.in-Ok.creation = c.deref.ensures.value ∙ c.in_ok-wanted.ensures in
    rw (p.1, p.2) (lacks-weaker (pages_of w) (Contains c.deref.result.now) (λ b. OfEach w (λ v. (t : Bool) → LooksAt w.geometry c.args.queue v (make_request t c.args.path.now) b)) c.in_err-look_for_all.field-0.0
    (λ b h v agrees. wants v agrees b (subst (λ (bs : List ℕ). Contains bs b) all h)) c.in_err-look_for_all.ensures.lack)

pub returns-clause-seen : goal.returns-clause-seen
returns-clause-seen c =
    let w = c.args.working.now in
    let p = c.requires.possible in
    let plan = (rw c.in-Ok.is at c.in_ok-creation.ensures.ok) p.0 p.1 false in
    let holds = rw c.in-Ok.is at c.in_ok-creation.ensures.pages in
    seen-make w.geometry c.args.queue (pages_of w) p.0 (empty_body false) c.args.path.now c.in-Ok.creation c.deref.result.now p.1 plan holds (c.deref.ensures.value ∙ c.in_ok-wanted.ensures) c.in_ok-look_for_all.ensures.ok

pub returns-in-Err-clause-ok : goal.returns-in-Err-clause-ok
returns-in-Err-clause-ok c = rw c.in-Err.is at c.in_ok-creation.ensures.ok

pub returns-clause-ok : goal.returns-clause-ok
returns-clause-ok c = rw c.in-Ok.is at c.in_ok-creation.ensures.ok
