use Rattle.std.proofs.Common.{sym, subst, ◌∙◌, ◌≡◌, ◌∷◌, ◌++◌, []}
use Rattle.std.proofs.lemmas.Result.{err_from_is_err_and}
use Rattle.mq_inodes.specs.Fits.{Agrees}
use Rattle.mq_inodes.specs.Pages.{pages_of}
use Rattle.mq_inodes.specs.Walks.{LeadsPast, LooksIn}
use Rattle.mq_inodes.proofs.MissingPages.{lacks-weaker}
use Rattle.mq_inodes.proofs.WalksPlacing.{holds-name, placed-name}
use Rattle.mq_inodes.proofs.Walks.{past-in, past-longer, walk-dir, way-last}
use Rattle.mq_tree.specs.Volume.{Volume, Way, way}
use Rattle.mq_inodes.proofs.working.Working.place.Goals as goal

pub returns-in_err-d-clause-lack : goal.returns-in_err-d-clause-lack
returns-in_err-d-clause-lack c =
    let p = err_from_is_err_and c.from_residual.result c.from_residual.ensures.1 in
    let is : c.args.path.now ≡ c.in-Some.names.now ++ c.in-Some.last.now ∷ [] = cc (c.path.view_is, c.deref.ensures.value, c.in-Some.ensures.cases.0) in
    rw (p.1, p.2) (lacks-weaker (pages_of c.args.self.now) (λ b. (v : Volume) → Agrees c.args.self.now.geometry (pages_of c.args.self.now) v → LeadsPast c.args.self.now.geometry v (way c.in-Some.names.now) b) (λ b. (v : Volume) → Agrees c.args.self.now.geometry (pages_of c.args.self.now) v → LeadsPast c.args.self.now.geometry v (way c.args.path.now) b) c.in_err-d.field-0.0
    (λ b h v agrees. subst (λ (w : Way). LeadsPast c.args.self.now.geometry v w b) (sym (way-last c.args.path.now c.in-Some.names.now c.in-Some.last.now is)) (past-longer c.args.self.now.geometry v (c.in-Some.last.now ∷ []) (way c.in-Some.names.now) b (h v agrees))) c.in_err-d.ensures.lack)

pub open_directory-requires-clause-dir : goal.open_directory-requires-clause-dir
open_directory-requires-clause-dir c v agrees = walk-dir c.args.self.now.geometry v (way c.in-Some.names.now) c.in-Ok.d agrees.sound (sym (c.in_ok-d.ensures.ok v agrees) ∙ c.in-Ok.is)

pub returns-in_err-directory-clause-lack : goal.returns-in_err-directory-clause-lack
returns-in_err-directory-clause-lack c =
    let p = err_from_is_err_and c.from_residual-in_err-directory.result c.from_residual-in_err-directory.ensures.1 in
    let is : c.args.path.now ≡ c.in-Some.names.now ++ c.in-Some.last.now ∷ [] = cc (c.path.view_is, c.deref.ensures.value, c.in-Some.ensures.cases.0) in
    rw (p.1, p.2) (lacks-weaker (pages_of c.args.self.now) (λ b. (v : Volume) → Agrees c.args.self.now.geometry (pages_of c.args.self.now) v → LooksIn c.args.self.now.geometry v c.in-Ok.d b) (λ b. (v : Volume) → Agrees c.args.self.now.geometry (pages_of c.args.self.now) v → LeadsPast c.args.self.now.geometry v (way c.args.path.now) b) c.in_err-directory.field-0.0
    (λ b h v agrees. subst (λ (w : Way). LeadsPast c.args.self.now.geometry v w b) (sym (way-last c.args.path.now c.in-Some.names.now c.in-Some.last.now is)) (past-longer c.args.self.now.geometry v (c.in-Some.last.now ∷ []) (way c.in-Some.names.now) b
    (past-in c.args.self.now.geometry v (way c.in-Some.names.now) c.in-Ok.d b agrees.sound (sym (c.in_ok-d.ensures.ok v agrees) ∙ c.in-Ok.is) (h v agrees)))) c.in_err-directory.ensures.lack)

pub returns-clause-ok : goal.returns-clause-ok
returns-clause-ok c v agrees =
    let g = c.args.self.now.geometry in
    let is : c.args.path.now ≡ c.in-Some.names.now ++ c.in-Some.last.now ∷ [] = cc (c.path.view_is, c.deref.ensures.value, c.in-Some.ensures.cases.0) in
    let called : c.deref-3.result.now ≡ c.in-Some.last.now = cc (c.last.view_is, c.deref-3.ensures.value) in
    placed-name (pages_of c.args.self.now) v (way c.args.path.now) (way c.in-Some.names.now) c.in-Some.last.now c.in-Ok.d c.in_ok-directory.directory c.search_names-found.result.0 c.search_names-found.result.1 c.deref-2.result.now c.deref-3.result.now
    (way-last c.args.path.now c.in-Some.names.now c.in-Some.last.now is) (sym (c.in_ok-d.ensures.ok v agrees) ∙ c.in-Ok.is) c.in_ok-directory.ensures.number (c.in_ok-directory.ensures.slots v agrees) c.deref-2.ensures.value called c.search_names-found.ensures.found

pub returns-clause-holds : goal.returns-clause-holds
returns-clause-holds c =
    holds-name c.args.self.now c.in_ok-directory.directory c.in-Ok.d c.search_names-found.result.0 c.search_names-found.result.1 c.deref-2.result.now c.in_ok-directory.ensures.number c.in_ok-directory.ensures.opened c.in_ok-directory.ensures.slots c.in_ok-directory.ensures.dirs c.in_ok-directory.ensures.few c.in_ok-directory.ensures.table
    c.in_ok-directory.ensures.pointers c.deref-2.ensures.value c.search_names-found.ensures.unused
